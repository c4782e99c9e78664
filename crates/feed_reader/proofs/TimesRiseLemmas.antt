-- The times of the calls of a trip without a fault do not fall.
use Rattle.std.proofs.Common.{◌≡◌, ℕ, zero, suc, ◌+◌, ◌-◌, ◌*◌, ◌/◌, ◌<◌, ◌≤◌, Bool, true, false, List, [], ◌∷◌, ◌++◌, Option, Some, None, length, get_or, refl, sym, ap, ◌∙◌, inl, inr, arith}
use Rattle.std.specs.Prelude.{All, IfSome, nat_lt, option_map, unwrap_or}
use Rattle.std.specs.List.{enumerate_from}
use Rattle.std.proofs.lemmas.Bool.{cases_Bool}
use Rattle.std.proofs.lemmas.Bool.Decides.{nat_tests}
use Rattle.std.proofs.lemmas.List.{get_or-map, length-map}
use Rattle.std.proofs.lemmas.List.Elements.{All-cons, All-from_get_or, All-nil}
use Rattle.std.proofs.lemmas.List.FromFn.{get_or-enumerate_from, length-enumerate_from}
use Rattle.std.proofs.lemmas.Nat.{le-div}
use Rattle.std.proofs.lemmas.Option.{slice_get-get_or}
use Rattle.std.proofs.Math.Nat.{div-le_of_le-mul, div-mul-le_self, mul_comm, mul-le-mul_left}
use Rattle.feed_reader.specs.declared.fault.FeedFault.{FeedFault}
use Rattle.feed_reader.specs.declared.row_call.RowCall.{RowCall}
use Rattle.feed_reader.specs.declared.timetable.Call.{Call}
use Rattle.feed_reader.specs.Calls.{arrival_at, call_of, calls_of, departure_at, falls_in, falls_of, is_aside, is_timed, left_at, spread_time, spread_times, time_between, timed_before, timed_from, times_at, times_of}
use Rattle.feed_reader.specs.Faults.{Fields, fault_if}
use Rattle.feed_reader.specs.TimesRise.{TimesRise}
use Rattle.feed_reader.specs.TripCalls.{list_kept}
use Rattle.feed_reader.proofs.CallLemmas.{before-timed, before-untimed, blank, from-timed, from-untimed, gap-around, kept-ends, left-some, timed-none, timed-some}
use Rattle.feed_reader.proofs.CallFaultLemmas.{falls-more, falls_from}

-- both parts of an empty list are
nil-left : {A : Type 0} (xs ys : List A) → xs ++ ys ≡ [] → xs ≡ []
nil-left [] ys h = refl
nil-left (x ∷ xs) ys h = absurd (cc h)

nil-right : {A : Type 0} (xs ys : List A) → xs ++ ys ≡ [] → ys ≡ []
nil-right [] ys h = h
nil-right (x ∷ xs) ys h = absurd (cc h)

-- no time falls at a place
falls-none : (calls : List RowCall) (i : ℕ) → falls_in [] calls ≡ [] → i ≤ length calls → falls_from calls i [] ≡ []
falls-none calls zero h le = h
falls-none calls (suc i) h le =
    let before = falls-none calls i h (omega arith) in
    let s : i + 1 ≡ suc i = omega arith in
    rw s at (nil-right (falls_of [] (left_at calls i) (get_or calls i blank) (times_of (get_or calls i blank))) (falls_from calls (i + 1) [])
    (sym (falls-more calls i (left_at calls i) (omega arith) refl []) ∙ before))

no-fault : (b c : Bool) (f g : FeedFault) → fault_if b f ++ fault_if c g ≡ [] → (b ≡ false) × (c ≡ false)
no-fault false false f g h = (refl, refl)
no-fault false true f g h = absurd (cc h)
no-fault true c f g h = absurd (cc h)

timed-rises : (calls : List RowCall) (i : ℕ) (t : ℕ × ℕ) → falls_in [] calls ≡ [] → i < length calls → Some t ≡ times_at calls i → (left_at calls i ≤ t.0) × (t.0 ≤ t.1)
timed-rises calls i t h lt e =
    let at : times_of (get_or calls i blank) ≡ Some t = rw (slice_get-get_or calls i blank lt) at (sym e) in
    let all : falls_of [] (left_at calls i) (get_or calls i blank) (times_of (get_or calls i blank)) ≡ [] =
    nil-left _ (falls_from calls (i + 1) []) (sym (falls-more calls i (left_at calls i) lt refl []) ∙ falls-none calls i h (omega arith)) in
    let two = no-fault (nat_lt t.0 (left_at calls i)) (nat_lt t.1 t.0) _ _ (rw at at all) in
    let one : nat_lt t.0 (left_at calls i) ≡ false = two.0 in
    let other : nat_lt t.1 t.0 ≡ false = two.1 in
    (grind (arith, nat_tests), grind (arith, nat_tests))

-- the departure of the timed call before a place
left-is : (calls : List RowCall) (i : ℕ) → is_timed calls 0 ≡ true → left_at calls (i + 1) ≡ departure_at calls (unwrap_or (timed_before calls (i + 1)) 0)
left-is calls zero t = rw (before-timed calls 0 t) refl
left-is calls (suc i) t = elim (cases_Bool (is_timed calls (suc i))) [
  | inl e ↦ rw (before-timed calls (suc i) e) refl
  | inr e ↦ let s : i + 1 ≡ suc i = omega arith in rw (before-untimed calls (suc i) e) (rw s at (left-is calls i t))
]

-- even steps rise, up to the whole
part-rises : (whole s t n : ℕ) → s ≤ t → 0 < n → whole * s / n ≤ whole * t / n
part-rises whole s t n le some =
    let most = div-mul-le_self (whole * s) n in
    let more = mul-le-mul_left whole le in
    le-div (whole * s / n) (whole * t) n some (omega arith)

part-most : (whole s n : ℕ) → s ≤ n → whole * s / n ≤ whole
part-most whole s n le =
    let more = mul-le-mul_left whole le in
    let same = mul_comm whole n in
    div-le_of_le-mul n (omega (arith, more, same))

time-rises : (calls : List RowCall) (first last p q : ℕ) → first < last → first ≤ p → p ≤ q → time_between calls first last p ≤ time_between calls first last q
time-rises calls first last p q lt low le =
    let parts = part-rises (arrival_at calls last - departure_at calls first) (p - first) (q - first) (last - first) (omega arith) (omega arith) in
    omega (arith, parts)

time-most : (calls : List RowCall) (first last p : ℕ) → p ≤ last → departure_at calls first ≤ arrival_at calls last → time_between calls first last p ≤ arrival_at calls last
time-most calls first last p le up =
    let parts = part-most (arrival_at calls last - departure_at calls first) (p - first) (last - first) (omega arith) in
    omega (arith, parts)

-- each call, and each beside the next
stays-at : (calls : List RowCall) (i : ℕ) (o : Option (ℕ × ℕ)) → falls_in [] calls ≡ [] → i < length calls → o ≡ times_at calls i → (spread_times calls i).0 ≤ (spread_times calls i).1
stays-at calls i None h lt e = rw (← e) (omega arith)
stays-at calls i (Some t) h lt e = let two = timed-rises calls i t h lt e in rw (← e) two.1

around : (calls : List RowCall) (i : ℕ) → is_aside calls ≡ false → i < length calls → None ≡ times_at calls i
    → (unwrap_or (timed_before calls i) 0 < i) × (i ≤ unwrap_or (timed_from calls i) 0)
around calls i kept lt e = gap-around calls i (record { first = unwrap_or (timed_before calls i) 0; last = unwrap_or (timed_from calls i) 0 }) kept lt e (record { first = refl; last = refl })

moves-at : (calls : List RowCall) (i : ℕ) (o p : Option (ℕ × ℕ)) → is_aside calls ≡ false → falls_in [] calls ≡ [] → i + 1 < length calls → o ≡ times_at calls i → p ≡ times_at calls (i + 1)
    → (spread_times calls i).1 ≤ (spread_times calls (i + 1)).0
moves-at calls i (Some t) (Some u) kept h lt e f =
    let left = left-some calls i t e in
    let two = timed-rises calls (i + 1) u h lt f in
    let low = two.0 in
    rw (← e, ← f) (omega arith)
moves-at calls i (Some t) None kept h lt e f =
    let d : departure_at calls i ≡ t.1 = rw (← e) refl in
    rw (← e, ← f, before-timed calls i (timed-some calls i t e)) (omega arith)
moves-at calls i None (Some u) kept h lt e f =
    let gap = around calls i kept (omega arith) e in
    let first = gap.0 in
    let last : timed_from calls i ≡ Some (i + 1) = from-untimed calls i (omega arith) (timed-none calls i e) ∙ from-timed calls (i + 1) lt (timed-some calls (i + 1) u f) in
    let two = timed-rises calls (i + 1) u h lt f in
    let low = two.0 in
    let left = left-is calls i (kept-ends calls kept).0 in
    let same : unwrap_or (timed_before calls (i + 1)) 0 ≡ unwrap_or (timed_before calls i) 0 = ap (λ (x : Option ℕ). unwrap_or x 0) (before-untimed calls i (timed-none calls i e)) in
    let there : arrival_at calls (i + 1) ≡ u.0 = rw (← f) refl in
    let up : departure_at calls (unwrap_or (timed_before calls i) 0) ≤ arrival_at calls (i + 1) = rw there (omega (arith, low, (rw same at left))) in
    let most = time-most calls (unwrap_or (timed_before calls i) 0) (i + 1) i (omega arith) up in
    let here : (spread_times calls i).1 ≡ time_between calls (unwrap_or (timed_before calls i) 0) (i + 1) i = rw (← e, last) refl in
    let next : (spread_times calls (i + 1)).0 ≡ u.0 = rw (← f) refl in
    rw (here, next, ← there) most
moves-at calls i None None kept h lt e f =
    let gap = around calls i kept (omega arith) e in
    let low = gap.0 in
    let high = gap.1 in
    let before = before-untimed calls i (timed-none calls i e) in
    let from = from-untimed calls i (omega arith) (timed-none calls i e) in
    let rise = time-rises calls (unwrap_or (timed_before calls i) 0) (unwrap_or (timed_from calls i) 0) i (i + 1) (omega arith) (omega arith) (omega arith) in
    let here : (spread_times calls i).1 ≡ spread_time calls i = rw (← e) refl in
    let next : (spread_times calls (i + 1)).0 ≡ spread_time calls (i + 1) = rw (← f) refl in
    let there : spread_time calls (i + 1) ≡ time_between calls (unwrap_or (timed_before calls i) 0) (unwrap_or (timed_from calls i) 0) (i + 1) = rw (before, ← from) refl in
    rw (here, next, there) rise

call-at : (calls : List RowCall) (i : ℕ) (d : Call) → i < length calls → get_or (calls_of calls) i d ≡ call_of (get_or calls i blank) (spread_times calls i)
call-at calls i d lt =
    let size = length-enumerate_from 0 calls in
    let z : 0 + i ≡ i = omega arith in
    get_or-map (λ (numbered : ℕ × RowCall). call_of numbered.1 (spread_times calls numbered.0)) (enumerate_from 0 calls) i (0, blank) d (omega arith)
    ∙ ap (λ (numbered : ℕ × RowCall). call_of numbered.1 (spread_times calls numbered.0)) (rw z at (get_or-enumerate_from 0 calls i (0, blank) lt))

calls-length : (calls : List RowCall) → length (calls_of calls) ≡ length calls
calls-length calls = length-map (enumerate_from 0 calls) (λ (numbered : ℕ × RowCall). call_of numbered.1 (spread_times calls numbered.0)) ∙ length-enumerate_from 0 calls

no_call : Call
no_call = record { stop = 0; arrival = 0; departure = 0; pickup = false; drop = false }

-- the lists that were kept
pub list-rises : {L : Type 0} (view : L → List Call) (read : Option L) → IfSome read (λ list. TimesRise (view list)) → All TimesRise (list_kept (option_map view read))
list-rises view None h = All-nil TimesRise
list-rises view (Some list) h = All-cons TimesRise (view list) [] h (All-nil TimesRise)

pub times-rise : (calls : List RowCall) → is_aside calls ≡ false → ((rows : List Fields) → falls_in rows calls ≡ []) → TimesRise (calls_of calls)
times-rise calls kept none =
    let size = calls-length calls in
    record {
      stays = All-from_get_or (λ call. call.arrival ≤ call.departure) (calls_of calls) no_call
          (λ i lt. rw (call-at calls i no_call (omega arith)) (stays-at calls i (times_at calls i) (none []) (omega arith) refl));
      moves = λ i d lt. rw (call-at calls i d (omega arith), call-at calls (i + 1) d (omega arith))
          (moves-at calls i (times_at calls i) (times_at calls (i + 1)) kept (none []) (omega arith) refl refl);
    }
