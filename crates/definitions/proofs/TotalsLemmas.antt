-- The least weight of a network is a boarding arc's, and the longest wait is enough at each boarding arc.
use Rattle.std.proofs.Common.{◌≡◌, ℕ, zero, suc, ◌+◌, ◌*◌, ◌<◌, ◌≤◌, Bool, true, false, cond, min, List, [], ◌∷◌, map, length, refl, ◌∙◌, ap, arith, inl, inr}
use Rattle.std.specs.List.{All, fold, filter, range_with_len}
use Rattle.std.specs.Int.{div_ceil}
use Rattle.std.proofs.Math.Nat.{mul-le-mul_left}
use Rattle.std.proofs.lemmas.Grind.{div_ceil_times}
use Rattle.std.proofs.lemmas.Bool.{cases_Bool, cases_lt, ne_eqb}
use Rattle.std.proofs.lemmas.List.Elements.{All-nil, All-cons, All-head, All-tail}
use Rattle.definitions.specs.Network.{NetworkData, IsWellFormed, is_boarding, weight_of, arc_numbers}
use Rattle.definitions.specs.Totals.{least_of, least_weight, longest_wait}

-- a running least is within its start, and within each number
fold_min-start : (x : ℕ) (xs : List ℕ) → fold min x xs ≤ x
fold_min-start x [] = omega arith
fold_min-start x (y ∷ ys) = omega (arith, fold_min-start (min x y) ys)

fold_min-each : (x : ℕ) (xs : List ℕ) → All (λ y. fold min x xs ≤ y) xs
fold_min-each x [] = All-nil (λ y. x ≤ y)
fold_min-each x (y ∷ ys) =
    All-cons (λ z. fold min (min x y) ys ≤ z) y ys (omega (arith, fold_min-start (min x y) ys)) (fold_min-each (min x y) ys)

fold_min-positive : (x : ℕ) (xs : List ℕ) → 0 < x → All (λ y. 0 < y) xs → 0 < fold min x xs
fold_min-positive x [] pos all = pos
fold_min-positive x (y ∷ ys) pos all =
    let first : 0 < y = All-head (λ y. 0 < y) y ys all in
    fold_min-positive (min x y) ys (omega arith) (All-tail (λ y. 0 < y) y ys all)

-- the least of some numbers is within each of them
pub least_of-le : (xs : List ℕ) → All (λ x. least_of xs ≤ x) xs
least_of-le [] = All-nil (λ x. 0 ≤ x)
least_of-le (x ∷ xs) = All-cons (λ y. fold min x xs ≤ y) x xs (fold_min-start x xs) (fold_min-each x xs)

-- the least of positive numbers is positive, where there is a number
least_of-positive : (x : ℕ) (xs : List ℕ) → All (λ x. 0 < x) (x ∷ xs) → 0 < least_of (x ∷ xs)
least_of-positive x xs all = fold_min-positive x xs (All-head (λ y. 0 < y) x xs all) (All-tail (λ y. 0 < y) x xs all)

-- what holds of the values at all numbers that pass holds of each
value_at : (P : ℕ → Type 0) (p : ℕ → Bool) (f : ℕ → ℕ) (s n a : ℕ) → All P (map f (filter p (range_with_len s n))) → s ≤ a → a < s + n → p a ≡ true → P (f a)
value_at P p f s zero a all low high pass = absurd (omega arith)
value_at P p f s (suc n) a all low high pass = elim (cases_lt s a) [
  | inl past ↦ value_at P p f (s + 1) n a (rest (p s) all) (omega arith) (omega arith) pass
  | inr here ↦ (
      let same : s ≡ a = omega arith in
      let first : P (f s) = All-head P (f s) (map f (filter p (range_with_len (s + 1) n))) (first_of (p s) (ap p same ∙ pass) all) in
      rw same at first)
]
  where
    rest : (b : Bool) → All P (map f (cond b (s ∷ filter p (range_with_len (s + 1) n)) (filter p (range_with_len (s + 1) n)))) → All P (map f (filter p (range_with_len (s + 1) n)))
    rest true all = All-tail P (f s) (map f (filter p (range_with_len (s + 1) n))) all
    rest false all = all

    first_of : (b : Bool) → b ≡ true → All P (map f (cond b (s ∷ filter p (range_with_len (s + 1) n)) (filter p (range_with_len (s + 1) n)))) → All P (map f (s ∷ filter p (range_with_len (s + 1) n)))
    first_of true e all = all
    first_of false e all = absurd cc

-- what holds of the value at each number that passes holds of all
values_all : (P : ℕ → Type 0) (p : ℕ → Bool) (f : ℕ → ℕ) (s n : ℕ) → ((a : ℕ) → s ≤ a → a < s + n → p a ≡ true → P (f a)) → All P (map f (filter p (range_with_len s n)))
values_all P p f s zero each = All-nil P
values_all P p f s (suc n) each = elim (cases_Bool (p s)) [
  | inl pass ↦ rw pass (All-cons P (f s) (map f (filter p (range_with_len (s + 1) n))) (each s (omega arith) (omega arith) pass) (values_all P p f (s + 1) n (λ a low high. each a (omega arith) (omega arith))))
  | inr fail ↦ rw fail (values_all P p f (s + 1) n (λ a low high. each a (omega arith) (omega arith)))
]

-- the least weight is within each boarding arc's
pub least_weight-le : (net : NetworkData) (arc : ℕ) → arc < length net.arcs → is_boarding net arc ≡ true → least_weight net ≤ weight_of net arc
least_weight-le net arc lt boards =
    value_at (λ weight. least_weight net ≤ weight) (is_boarding net) (weight_of net) 0 (length net.arcs) arc
    (least_of-le (map (weight_of net) (filter (is_boarding net) (arc_numbers net)))) (omega arith) (omega arith) boards

-- the least weight is positive where there is a boarding arc
pub least_weight-positive : (net : NetworkData) (arc : ℕ) → IsWellFormed net → arc < length net.arcs → is_boarding net arc ≡ true → 0 < least_weight net
least_weight-positive net arc sound lt boards =
    positive (map (weight_of net) (filter (is_boarding net) (arc_numbers net)))
    (values_all (λ weight. 0 < weight) (is_boarding net) (weight_of net) 0 (length net.arcs) (λ a low high pass. sound.weights a (omega arith) pass))
    (λ none. value_at (λ _. ⊥) (is_boarding net) (weight_of net) 0 (length net.arcs) arc (rw none (All-nil (λ _. ⊥))) (omega arith) (omega arith) boards)
  where
    positive : (xs : List ℕ) → All (λ x. 0 < x) xs → (xs ≡ [] → ⊥) → 0 < least_of xs
    positive [] all some = absurd (some refl)
    positive (x ∷ xs) all some = least_of-positive x xs all

-- the longest wait is enough at each boarding arc
pub longest_wait-enough : (net : NetworkData) (arc : ℕ) → IsWellFormed net → arc < length net.arcs → is_boarding net arc ≡ true → net.k ≤ longest_wait net * weight_of net arc
longest_wait-enough net arc sound lt boards =
    let positive : 0 < least_weight net = least_weight-positive net arc sound lt boards in
    let quotient : longest_wait net ≡ div_ceil net.k (least_weight net) = rw (ne_eqb (least_weight net) 0 (λ e. omega arith)) refl in
    let enough : net.k ≤ div_ceil net.k (least_weight net) * least_weight net = (div_ceil_times net.k (least_weight net) positive).0 in
    let more : div_ceil net.k (least_weight net) * least_weight net ≤ div_ceil net.k (least_weight net) * weight_of net arc =
    mul-le-mul_left (div_ceil net.k (least_weight net)) (least_weight-le net arc lt boards) in
    rw quotient (omega arith)
