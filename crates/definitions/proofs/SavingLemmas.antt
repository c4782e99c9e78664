-- What waiting for some arcs saves: the sum of weight times how far a label exceeds what each leads to.
use Rattle.std.proofs.Common.{◌≡◌, ℕ, ◌-◌, ◌*◌, ◌<◌, ◌≤◌, ◌==◌, ◌&&◌, Bool, true, false, cond, List, length, refl, ◌∙◌, arith, inl, inr, ◌⊎◌}
use Rattle.std.specs.List.{sum_by, range_with_len}
use Rattle.std.proofs.Math.Nat.{mul-le-mul_left}
use Rattle.definitions.specs.Network.{NetworkData, tail_of, head_of, weight_of, is_boarding, arc_numbers, boarding_arcs, out_arcs}
use Rattle.definitions.specs.Dual.{time_through, weighted_savings}
use Rattle.definitions.specs.Reach.{is_reached}
use Rattle.definitions.specs.Labels.{reaching_boardings}
use Rattle.definitions.proofs.Sums.{sum_by-filter, sum_by-same, range_le}

-- over the arcs below n that are here
abbrev pub saved : ℕ → (ℕ → Bool) → (ℕ → ℕ) → (ℕ → ℕ) → ℕ → ℕ
saved n here f t v = sum_by (λ a. cond (here a) (f a * (v - t a)) 0) (range_with_len 0 n)

term_le : (h g : Bool) (f t s v w : ℕ) → v ≤ w → (h ≡ true → (v ≤ t) ⊎ ((g ≡ true) × (s ≤ t))) → cond h (f * (v - t)) 0 ≤ cond g (f * (w - s)) 0
term_le false g f t s v w le h = omega arith
term_le true g f t s v w le h = elim (h refl) [
  | inl under ↦ (let none : v - t ≡ 0 = omega arith in rw none (omega arith))
  | inr more ↦ (let e : g ≡ true = more.0 in let less : v - t ≤ w - s = let m = more.1 in omega arith in rw e (mul-le-mul_left f less))
]

-- arcs that lead to v or more save nothing
pub saved_le : (n : ℕ) (here there : ℕ → Bool) (f t s : ℕ → ℕ) (v w : ℕ) → v ≤ w →
    ((a : ℕ) → a < n → here a ≡ true → (v ≤ t a) ⊎ ((there a ≡ true) × (s a ≤ t a))) → saved n here f t v ≤ saved n there f s w
saved_le n here there f t s v w le h =
    range_le (λ a. cond (here a) (f a * (v - t a)) 0) (λ a. cond (there a) (f a * (w - s a)) 0) 0 n
    (λ a low high. term_le (here a) (there a) (f a) (t a) (s a) v w le (h a (omega arith)))

-- whether an arc is a boarding arc out of i whose head is marked
abbrev pub bears : NetworkData → List Bool → ℕ → ℕ → Bool
bears net reached i a = (tail_of net a == i) && (is_boarding net a && is_reached reached (head_of net a))

nested : (x y z : Bool) (n : ℕ) → cond x (cond y (cond z n 0) 0) 0 ≡ cond (x && (y && z)) n 0
nested true true true n = refl
nested true true false n = refl
nested true false z n = refl
nested false y z n = refl

-- the savings that `Permits` bounds, as a sum over all arcs
pub saved_is : (net : NetworkData) (reached : List Bool) (u : List ℕ) (i v : ℕ) →
    weighted_savings net u (reaching_boardings net reached i) v ≡ saved (length net.arcs) (bears net reached i) (weight_of net) (time_through net u) v
saved_is net reached u i v =
    let f : ℕ → ℕ = λ a. weight_of net a * (v - time_through net u a) in
    sum_by-filter f (λ a. is_reached reached (head_of net a)) (boarding_arcs net i)
    ∙ sum_by-filter (λ a. cond (is_reached reached (head_of net a)) (f a) 0) (is_boarding net) (out_arcs net i)
    ∙ sum_by-filter (λ a. cond (is_boarding net a) (cond (is_reached reached (head_of net a)) (f a) 0) 0) (λ a. tail_of net a == i) (arc_numbers net)
    ∙ sum_by-same (λ a. cond (tail_of net a == i) (cond (is_boarding net a) (cond (is_reached reached (head_of net a)) (f a) 0) 0) 0) (λ a. cond (bears net reached i a) (f a) 0) (arc_numbers net)
    (λ a. nested (tail_of net a == i) (is_boarding net a) (is_reached reached (head_of net a)) (f a))
