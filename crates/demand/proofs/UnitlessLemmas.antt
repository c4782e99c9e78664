-- Amounts without units make no pair.
use Rattle.std.proofs.Common.{◌≡◌, ℕ, List, [], ◌∷◌, ◌++◌, map, refl, ap, ◌∙◌, inl, inr, arith}
use Rattle.std.specs.Prelude.{filter, flat_map}
use Rattle.std.specs.List.{range_with_len}
use Rattle.std.proofs.lemmas.Bool.{cases_Bool}
use Rattle.std.proofs.lemmas.Bool.Decides.{nat_tests}
use Rattle.demand.specs.declared.tables.Pair.{Pair}
use Rattle.demand.specs.Pairs.{has_units, is_of, pair_at, pairs_of, pairs_to, units_from_to}
use Rattle.demand.proofs.UnitLemmas.{share, units-cons}

-- amounts without units count for nothing
units-kept : (xs : List Pair) (o d : ℕ) → units_from_to (filter has_units xs) o d ≡ units_from_to xs o d
units-kept [] o d = refl
units-kept (x ∷ xs) o d =
    let rest = units-kept xs o d in
    let whole = units-cons x xs o d in
    elim (cases_Bool (has_units x)) [
      | inl h ↦ rw h (units-cons x (filter has_units xs) o d ∙ omega (arith, rest, whole))
      | inr h ↦
          let none : x.units ≡ 0 = grind (arith, nat_tests) in
          let nothing : share o d x ≡ 0 = elim (cases_Bool (is_of o d x)) [ inl k ↦ rw k none | inr k ↦ rw k refl ] in
          rw h (omega (arith, rest, whole, nothing))
    ]

map-same : {X Y : Type 0} (f g : X → Y) → ((x : X) → f x ≡ g x) → (xs : List X) → map f xs ≡ map g xs
map-same f g same [] = refl
map-same {X} {Y} f g same (x ∷ xs) = ap (λ (y : Y). y ∷ map f xs) (same x) ∙ ap (λ (ys : List Y). g x ∷ ys) (map-same f g same xs)

flat-same : {X Y : Type 0} (f g : X → List Y) → ((x : X) → f x ≡ g x) → (xs : List X) → flat_map f xs ≡ flat_map g xs
flat-same f g same [] = refl
flat-same {X} {Y} f g same (x ∷ xs) = ap (λ (ys : List Y). ys ++ flat_map f xs) (same x) ∙ ap (λ (ys : List Y). g x ++ ys) (flat-same f g same xs)

abbrev pair_with : ℕ → ℕ → ℕ → Pair
pair_with o d u = record { origin = o; destination = d; units = u }

pub pairs-kept : (n : ℕ) (xs : List Pair) → pairs_of n (filter has_units xs) ≡ pairs_of n xs
pairs-kept n xs = ap (filter has_units) (flat-same (pairs_to n (filter has_units xs)) (pairs_to n xs)
    (λ d. map-same (pair_at (filter has_units xs) d) (pair_at xs d) (λ o. ap (λ (u : ℕ). pair_with o d u) (units-kept xs o d)) (range_with_len 0 n)) (range_with_len 0 n))
