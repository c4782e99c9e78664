-- What an assignment needs of the pairs of its demand: they join zones of the city, and stand by destination, not falling.
use Rattle.std.specs.Prelude.{ℕ, ◌<◌, ◌≤◌, List, All, length, slice_index_or, sum_by}
use Rattle.definitions.specs.declared.limits.TheConstants.{UNIT_LIMIT}
use Rattle.demand.specs.declared.tables.Pair.{Pair}
use Rattle.demand.specs.Laws.{IsPairAmong}

-- what stands for a pair where there is none
abbrev pub no_pair : Pair
no_pair = record { origin = 0; destination = 0; units = 0 }

-- the zone to which the pair at a place leads
abbrev pub destination_at : List Pair → ℕ → ℕ
destination_at pairs place = (slice_index_or pairs place no_pair).destination

-- the units of all pairs
abbrev pub units_of_pairs : List Pair → ℕ
units_of_pairs pairs = sum_by (λ pair. pair.units) pairs

-- pairs stand by destination
abbrev pub AreOrdered : List Pair → Type 0
AreOrdered pairs = (place later : ℕ) → place ≤ later → later < length pairs → destination_at pairs place ≤ destination_at pairs later

-- pairs of so many zones, by destination, with no more units than there may be
pub record ArePairs (zones : ℕ) (pairs : List Pair) : Type 0 where
  pub among : All (IsPairAmong zones) pairs
  pub ordered : AreOrdered pairs
  pub within : units_of_pairs pairs ≤ UNIT_LIMIT
