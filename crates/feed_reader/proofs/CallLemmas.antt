-- Timed places of the calls of a trip, and the times between them.
use Rattle.std.proofs.Common.{◌≡◌, ℕ, zero, suc, ◌+◌, ◌-◌, ◌<◌, ◌≤◌, Bool, true, false, List, [], ◌∷◌, ◌++◌, Option, Some, None, length, drop, refl, sym, ap, ◌∙◌, inl, inr, arith}
use Rattle.std.specs.Prelude.{◌||◌, not, is_none, is_some, map, nat_lt, unwrap_or}
use Rattle.std.specs.List.{enumerate_from, filter, find, last_or, list_any, range_with_len}
use Rattle.std.proofs.lemmas.Bool.{cases_Bool}
use Rattle.std.proofs.lemmas.List.{append-nil}
use Rattle.std.proofs.lemmas.List.Elements.{filter-append}
use Rattle.feed_reader.specs.declared.row_call.RowCall.{RowCall}
use Rattle.feed_reader.specs.declared.spreading.Gap.{Gap}
use Rattle.feed_reader.specs.declared.timetable.Call.{Call}
use Rattle.feed_reader.specs.Calls.{call_of, is_aside, is_timed, left_at, spread_times, timed_before, timed_from, times_at}
use Rattle.feed_reader.specs.Spreading.{IsGapAt}

-- numbers from one on, with the one behind them
range-more : (a n : ℕ) → range_with_len a (suc n) ≡ range_with_len a n ++ (a + n) ∷ []
range-more a zero = let e : a + 0 ≡ a = omega arith in rw e refl
range-more a (suc n) = let e : a + 1 + n ≡ a + suc n = omega arith in ap (λ (xs : List ℕ). a ∷ xs) (rw (← e) (range-more (a + 1) n))

pub range-next : (n : ℕ) → range_with_len 0 (n + 1) ≡ range_with_len 0 n ++ n ∷ []
range-next n = let e : n + 1 ≡ suc n = omega arith in let z : 0 + n ≡ n = omega arith in rw e (rw z at (range-more 0 n))

last-more : {A : Type 0} (o : Option A) (xs : List A) (x : A) → last_or o (xs ++ x ∷ []) ≡ Some x
last-more o [] x = refl
last-more o (y ∷ ys) x = last-more (Some y) ys x

-- the last timed place before the next one
pub before-timed : (calls : List RowCall) (i : ℕ) → is_timed calls i ≡ true → timed_before calls (i + 1) ≡ Some i
before-timed calls i t =
    let split : filter (is_timed calls) (range_with_len 0 (i + 1)) ≡ filter (is_timed calls) (range_with_len 0 i) ++ i ∷ [] =
    ap (λ (xs : List ℕ). filter (is_timed calls) xs) (range-next i) ∙ filter-append (is_timed calls) (range_with_len 0 i) (i ∷ []) ∙ rw t refl in
    ap (λ (xs : List ℕ). last_or None xs) split ∙ last-more None (filter (is_timed calls) (range_with_len 0 i)) i

pub before-untimed : (calls : List RowCall) (i : ℕ) → is_timed calls i ≡ false → timed_before calls (i + 1) ≡ timed_before calls i
before-untimed calls i t =
    let split : filter (is_timed calls) (range_with_len 0 (i + 1)) ≡ filter (is_timed calls) (range_with_len 0 i) =
    ap (λ (xs : List ℕ). filter (is_timed calls) xs) (range-next i) ∙ filter-append (is_timed calls) (range_with_len 0 i) (i ∷ []) ∙ rw t (append-nil _) in
    ap (λ (xs : List ℕ). last_or None xs) split

-- the first timed place from a place on
pub from-timed : (calls : List RowCall) (i : ℕ) → i < length calls → is_timed calls i ≡ true → timed_from calls i ≡ Some i
from-timed calls i lt t = let e : length calls - i ≡ suc (length calls - (i + 1)) = omega arith in rw (e, t) refl

pub from-untimed : (calls : List RowCall) (i : ℕ) → i < length calls → is_timed calls i ≡ false → timed_from calls i ≡ timed_from calls (i + 1)
from-untimed calls i lt t = let e : length calls - i ≡ suc (length calls - (i + 1)) = omega arith in rw (e, t) refl

-- what stands at a place is timed where it has times
pub timed-none : (calls : List RowCall) (i : ℕ) → None ≡ times_at calls i → is_timed calls i ≡ false
timed-none calls i e = ap is_some (sym e)

pub timed-some : (calls : List RowCall) (i : ℕ) (t : ℕ × ℕ) → Some t ≡ times_at calls i → is_timed calls i ≡ true
timed-some calls i t e = ap is_some (sym e)

-- the departure before the next place
pub left-none : (calls : List RowCall) (i left : ℕ) → None ≡ times_at calls i → left ≡ left_at calls i → left ≡ left_at calls (i + 1)
left-none calls i left e h = rw (before-untimed calls i (timed-none calls i e)) h

pub left-some : (calls : List RowCall) (i : ℕ) (t : ℕ × ℕ) → Some t ≡ times_at calls i → t.1 ≡ left_at calls (i + 1)
left-some calls i t e = rw (before-timed calls i (timed-some calls i t e)) (rw (← e) refl)

-- a trip that is not set aside has its first and last call timed
or-false : (a b : Bool) → (a || b) ≡ false → (a ≡ false) × (b ≡ false)
or-false false b h = (refl, h)
or-false true b h = absurd (cc h)

not-false : (b : Bool) → not b ≡ false → b ≡ true
not-false true h = refl
not-false false h = absurd (cc h)

pub kept-ends : (calls : List RowCall) → is_aside calls ≡ false → (is_timed calls 0 ≡ true) × (is_timed calls (length calls - 1) ≡ true)
kept-ends calls h =
    let one = or-false (nat_lt (length calls) 2) _ h in
    let two = or-false (list_any (λ call. is_none call.stop) calls) _ one.1 in
    let three = or-false (not (is_timed calls 0)) (not (is_timed calls (length calls - 1))) two.1 in
    (not-false _ three.0, not-false _ three.1)

-- the places around a place
before-less : (calls : List RowCall) (i : ℕ) → unwrap_or (timed_before calls (i + 1)) 0 < i + 1
before-less calls zero = elim (cases_Bool (is_timed calls 0)) [
  | inl t ↦ let e : unwrap_or (timed_before calls (0 + 1)) 0 ≡ 0 = ap (λ (o : Option ℕ). unwrap_or o 0) (before-timed calls 0 t) in omega arith
  | inr t ↦ let e : unwrap_or (timed_before calls (0 + 1)) 0 ≡ 0 = ap (λ (o : Option ℕ). unwrap_or o 0) (before-untimed calls 0 t) in omega arith
]
before-less calls (suc i) = elim (cases_Bool (is_timed calls (suc i))) [
  | inl t ↦ let e : unwrap_or (timed_before calls (suc i + 1)) 0 ≡ suc i = ap (λ (o : Option ℕ). unwrap_or o 0) (before-timed calls (suc i) t) in omega arith
  | inr t ↦
      let s : i + 1 ≡ suc i = omega arith in
      let earlier : unwrap_or (timed_before calls (suc i)) 0 < suc i = rw s at (before-less calls i) in
      let e : unwrap_or (timed_before calls (suc i + 1)) 0 ≡ unwrap_or (timed_before calls (suc i)) 0 = ap (λ (o : Option ℕ). unwrap_or o 0) (before-untimed calls (suc i) t) in
      omega arith
]

find-least : (p : ℕ → Bool) (a n j : ℕ) → a ≤ j → j < a + n → p j ≡ true → a ≤ unwrap_or (find p (range_with_len a n)) 0
find-least p a zero j le lt t = absurd (omega arith)
find-least p a (suc n) j le lt t = elim (cases_Bool (p a)) [
  | inl here ↦ rw here (omega arith)
  | inr here ↦
      let differs : ¬ (a ≡ j) = λ e. let bad : p a ≡ true = rw e t in absurd (cc (here, bad)) in
      let later = find-least p (a + 1) n j (omega arith) (omega arith) t in
      rw here (omega arith)
]

pub gap-around : (calls : List RowCall) (i : ℕ) (gap : Gap) → is_aside calls ≡ false → i < length calls → None ≡ times_at calls i → IsGapAt calls i gap → (gap.first < i) × (i ≤ gap.last)
gap-around calls i gap kept lt e around =
    let ends = kept-ends calls kept in
    let here = timed-none calls i e in
    let some : ¬ (i ≡ 0) = λ z. let bad : is_timed calls 0 ≡ false = rw z at here in absurd (cc (bad, ends.0)) in
    let back : i - 1 + 1 ≡ i = omega arith in
    let low : unwrap_or (timed_before calls i) 0 < i = rw back at (before-less calls (i - 1)) in
    let high : i ≤ unwrap_or (timed_from calls i) 0 = find-least (is_timed calls) i (length calls - i) (length calls - 1) (omega arith) (omega arith) ends.1 in
    let first = around.first in
    let last = around.last in
    (omega arith, omega arith)

-- the gap around the next place
pub gap-same : (calls : List RowCall) (i : ℕ) (gap : Gap) → i < length calls → is_timed calls i ≡ false → IsGapAt calls i gap → IsGapAt calls (i + 1) gap
gap-same calls i gap lt t around = record {
  first = around.first ∙ ap (λ (o : Option ℕ). unwrap_or o 0) (sym (before-untimed calls i t));
  last = around.last ∙ ap (λ (o : Option ℕ). unwrap_or o 0) (from-untimed calls i lt t);
}

pub gap-next : (calls : List RowCall) (i last : ℕ) → is_timed calls i ≡ true → last ≡ unwrap_or (timed_from calls (i + 1)) 0 → IsGapAt calls (i + 1) (record { first = i; last = last })
gap-next calls i last t e = record { first = ap (λ (o : Option ℕ). unwrap_or o 0) (sym (before-timed calls i t)); last = e }

-- the calls from a place on
abbrev pub spread_from : List RowCall → ℕ → List Call
spread_from calls i = map (λ numbered. call_of numbered.1 (spread_times calls numbered.0)) (enumerate_from i (drop i calls))

abbrev pub blank : RowCall
blank = record { row = 0; sequence = 0; stop = None; arrival = None; departure = None; pickup = false; drop = false }
