-- The stretches of a trip among stretches that stand by trip.
use Rattle.std.proofs.Common.{◌≡◌, ℕ, zero, suc, ◌+◌, ◌-◌, ◌<◌, ◌≤◌, false, List, [], ◌∷◌, length, take, drop, refl, sym, ap, ◌∙◌, inl, inr, arith, length-drop}
use Rattle.std.specs.Prelude.{◌==◌, filter}
use Rattle.std.specs.List.{prefix_len}
use Rattle.std.proofs.lemmas.Bool.{cases_Bool}
use Rattle.std.proofs.lemmas.Bool.Decides.{nat_tests}
use Rattle.std.proofs.lemmas.List.Sums.{prefix_len-le-length}
use Rattle.std.proofs.Math.Seq.{drop-nil}
use Rattle.std.specs.List.Sorted.{IsNonDecreasingBy}
use Rattle.std.proofs.lemmas.List.Sorted.{IsNonDecreasingBy-drop}
use Rattle.feed_reader.specs.declared.call_rows.Stretch.{Stretch}
use Rattle.feed_reader.specs.Stretches.{stretch_trip}
use Rattle.feed_reader.proofs.OrderLemmas.{From, Rises, from-less, none-below, rises-index}

-- the rows in front that are of one key are all of that key, where no key is less and keys rise
pub front-all : {A : Type 0} (key : A → ℕ) (t : ℕ) (xs : List A) → From key t xs → Rises key xs
    → take (prefix_len (λ x. key x == t) xs) xs ≡ filter (λ x. key x == t) xs
front-all key t [] low up = refl
front-all {A} key t (x ∷ xs) low up = elim (cases_Bool (key x == t)) [
  | inl e ↦
      let more : 1 + prefix_len (λ y. key y == t) xs ≡ suc (prefix_len (λ y. key y == t) xs) = omega arith in
      rw (e, more) (ap (λ (ys : List A). x ∷ ys) (front-all key t xs low.1 up.1))
  | inr e ↦
      let least = low.0 in
      let above : t < key x = grind (arith, nat_tests) in
      rw e (sym (none-below key t (key x) xs above up.0))
]

-- behind them each key is greater
pub behind-from : {A : Type 0} (key : A → ℕ) (t : ℕ) (xs : List A) → From key t xs → Rises key xs
    → From key (t + 1) (drop (prefix_len (λ x. key x == t) xs) xs)
behind-from key t [] low up = tt
behind-from key t (x ∷ xs) low up = elim (cases_Bool (key x == t)) [
  | inl e ↦
      let more : 1 + prefix_len (λ y. key y == t) xs ≡ suc (prefix_len (λ y. key y == t) xs) = omega arith in
      rw (e, more) (behind-from key t xs low.1 up.1)
  | inr e ↦
      let least = low.0 in
      let above : t + 1 ≤ key x = grind (arith, nat_tests) in
      rw e (above, from-less key (t + 1) (key x) xs above up.0)
]

-- and of another key there are as many as before
pub behind-kept : {A : Type 0} (key : A → ℕ) (t u : ℕ) (xs : List A) → t < u
    → filter (λ x. key x == u) (drop (prefix_len (λ x. key x == t) xs) xs) ≡ filter (λ x. key x == u) xs
behind-kept key t u [] lt = refl
behind-kept key t u (x ∷ xs) lt = elim (cases_Bool (key x == t)) [
  | inl e ↦
      let more : 1 + prefix_len (λ y. key y == t) xs ≡ suc (prefix_len (λ y. key y == t) xs) = omega arith in
      let differs : (key x == u) ≡ false = grind (arith, nat_tests) in
      rw (e, more, differs) (behind-kept key t u xs lt)
  | inr e ↦ rw e refl
]

-- a start before a trip: from it on each stretch is of this trip or a later one, and all of those are there
pub record IsBefore (stretches : List Stretch) (trip start : ℕ) : Type 0 where
  pub within : start ≤ length stretches
  pub low : From stretch_trip trip (drop start stretches)
  pub left : (later : ℕ) → trip ≤ later → filter (λ stretch. stretch_trip stretch == later) (drop start stretches) ≡ filter (λ stretch. stretch_trip stretch == later) stretches

from-zero : (stretches : List Stretch) → From stretch_trip 0 stretches
from-zero [] = tt
from-zero (stretch ∷ stretches) = (omega arith, from-zero stretches)

pub before-first : (stretches : List Stretch) → IsBefore stretches 0 0
before-first stretches = record { within = omega arith; low = from-zero stretches; left = λ later le. refl }

-- how many stretches at a start are of a trip
abbrev pub size_of : List Stretch → ℕ → ℕ → ℕ
size_of stretches trip start = prefix_len (λ stretch. stretch_trip stretch == trip) (drop start stretches)

drop-twice : {A : Type 0} (a b : ℕ) (xs : List A) → drop b (drop a xs) ≡ drop (a + b) xs
drop-twice zero b xs = let e : 0 + b ≡ b = omega arith in rw e refl
drop-twice (suc a) b [] = drop-nil b ∙ sym (drop-nil (suc a + b))
drop-twice (suc a) b (x ∷ xs) = let e : suc a + b ≡ suc (a + b) = omega arith in rw e (drop-twice a b xs)

pub size-within : (stretches : List Stretch) (trip start : ℕ) → start ≤ length stretches → start + size_of stretches trip start ≤ length stretches
size-within stretches trip start le =
    let least = prefix_len-le-length (λ stretch. stretch_trip stretch == trip) (drop start stretches) in
    let size = length-drop start stretches in
    omega arith

pub before-next : (stretches : List Stretch) (trip start end : ℕ) → IsNonDecreasingBy stretch_trip stretches → IsBefore stretches trip start → end ≡ start + size_of stretches trip start
    → IsBefore stretches (trip + 1) end
before-next stretches trip start end sorted before e =
    let up = rises-index stretch_trip (drop start stretches) (IsNonDecreasingBy-drop stretch_trip start stretches sorted) in
    let behind : drop end stretches ≡ drop (size_of stretches trip start) (drop start stretches) = rw e (sym (drop-twice start (size_of stretches trip start) stretches)) in
    record {
      within = rw e (size-within stretches trip start before.within);
      low = rw behind (behind-from stretch_trip trip (drop start stretches) before.low up);
      left = λ later le. rw behind (behind-kept stretch_trip trip later (drop start stretches) (omega arith)) ∙ before.left later (omega arith);
    }

pub before-run : (stretches : List Stretch) (trip start end : ℕ) → IsNonDecreasingBy stretch_trip stretches → IsBefore stretches trip start → end ≡ start + size_of stretches trip start
    → take (end - start) (drop start stretches) ≡ filter (λ stretch. stretch_trip stretch == trip) stretches
before-run stretches trip start end sorted before e =
    let up = rises-index stretch_trip (drop start stretches) (IsNonDecreasingBy-drop stretch_trip start stretches sorted) in
    let count : end - start ≡ size_of stretches trip start = omega arith in
    rw count (front-all stretch_trip trip (drop start stretches) before.low up) ∙ before.left trip (omega arith)
