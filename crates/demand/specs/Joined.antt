-- Pairs in order, with one more amount at their end.
use Rattle.std.specs.Prelude.{◌+◌, ◌*◌, ◌≤◌, ◌<◌, ◌≡◌, ◌⊎◌, ℕ, List, [], ◌∷◌, if◌then◌else◌}
use Rattle.std.specs.List.{AllByRecursion}
use Rattle.demand.specs.declared.tables.Pair.{Pair}
use Rattle.demand.specs.Pairs.{is_of}

-- a pair with more units
abbrev pub with_more : Pair → ℕ → Pair
with_more pair units = record { origin = pair.origin; destination = pair.destination; units = pair.units + units }

-- pairs with one more amount: it is added to the last, where that is of the same zones
unfoldable pub joined : List Pair → Pair → List Pair
joined [] amount = amount ∷ []
joined (pair ∷ []) amount = if is_of pair.origin pair.destination amount then with_more pair amount.units ∷ [] else pair ∷ amount ∷ []
joined (pair ∷ next ∷ rest) amount = pair ∷ joined (next ∷ rest) amount

-- a pair stands at this destination and this origin, or behind them
abbrev pub IsFrom : ℕ → ℕ → Pair → Type 0
IsFrom destination origin pair = (destination < pair.destination) ⊎ ((destination ≡ pair.destination) × (origin ≤ pair.origin))

-- pairs by destination and then by origin, no two of the same zones
unfoldable pub Rises : List Pair → Type 0
Rises [] = Unit {0}
Rises (pair ∷ rest) = AllByRecursion (IsFrom pair.destination (pair.origin + 1)) rest × Rises rest

-- amounts by destination and then by origin, where some may be of the same zones
unfoldable pub Climbs : List Pair → Type 0
Climbs [] = Unit {0}
Climbs (amount ∷ rest) = AllByRecursion (IsFrom amount.destination amount.origin) rest × Climbs rest

-- where an amount stands among those of so many zones as may be
abbrev pub place : Pair → ℕ
place amount = amount.destination * 4096 + amount.origin
