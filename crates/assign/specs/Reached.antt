-- Whether passengers can go where they want to.
use Rattle.std.specs.Prelude.{◌≡◌, ℕ, List, Some, All, slice_get, take}
use Rattle.definitions.specs.Reach.{Reaches}
use Rattle.demand.specs.declared.tables.Pair.{Pair}
use Rattle.network.specs.Cities.{CityData}
use Rattle.assign.specs.Visits.{goal_of}

-- the origin of a pair reaches its destination
abbrev pub PairReaches : CityData → Pair → Type 0
PairReaches city pair = Reaches city.net (goal_of city pair.destination) pair.origin

-- each pair reaches
abbrev pub AllPairsReach : CityData → List Pair → Type 0
AllPairsReach city pairs = All (PairReaches city) pairs

-- a pair from an origin to a destination does not reach, and each pair before it does
pub record IsFirstUnreached (city : CityData) (pairs : List Pair) (origin destination : ℕ) : Type 0 where
  pub place : ℕ
  pub pair : Pair
  pub there : slice_get pairs place ≡ Some pair
  pub origin_of : pair.origin ≡ origin
  pub destination_of : pair.destination ≡ destination
  pub unreached : ¬ PairReaches city pair
  pub first : AllPairsReach city (take place pairs)
