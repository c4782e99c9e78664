-- Values worked out by hand, which the definition of a split gives.
use Rattle.std.proofs.Common.{◌≡◌, ℕ, List, [], ◌∷◌, refl}
use Rattle.std.specs.Prelude.{map, length, slice_index}
use Rattle.std.specs.List.{range_with_len}
use Rattle.definitions.specs.Split.{share}

-- the shares of units over weights
abbrev pub shares : ℕ → List ℕ → List ℕ
shares units weights = map (share units (slice_index weights) (range_with_len 0 (length weights))) (range_with_len 0 (length weights))

-- quotas that are whole
even_split : shares 10 (6000 ∷ 4000 ∷ []) ≡ 6 ∷ 4 ∷ []
even_split = refl

-- equal remainders go to the lower numbers
equal_split : shares 2 (6000 ∷ 6000 ∷ 6000 ∷ []) ≡ 1 ∷ 1 ∷ 0 ∷ []
equal_split = refl

-- the larger remainder comes first
larger_split : shares 1 (1 ∷ 2 ∷ []) ≡ 0 ∷ 1 ∷ []
larger_split = refl

-- a weight of 0 gets nothing
zero_split : shares 5 (0 ∷ 3 ∷ 3 ∷ []) ≡ 0 ∷ 3 ∷ 2 ∷ []
zero_split = refl

no_units_split : shares 0 (7 ∷ []) ≡ 0 ∷ []
no_units_split = refl

-- the greatest numbers
greatest_split : shares 1000000000000000 (4294967295 ∷ 4294967295 ∷ []) ≡ 500000000000000 ∷ 500000000000000 ∷ []
greatest_split = refl

-- quotas of 1.4, 2.8 and 2.8 hold five whole units, and the two left go to the second and the third number
mixed_split : shares 7 (1 ∷ 2 ∷ 2 ∷ []) ≡ 1 ∷ 3 ∷ 3 ∷ []
mixed_split = refl
