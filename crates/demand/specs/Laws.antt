-- What holds of the parts of a table: their numbers name zones and stops. Here: docs/FORMATS.md.
use Rattle.std.specs.Prelude.{◌≡◌, ◌≢◌, ◌<◌, ◌≤◌, ◌⊎◌, ℕ, List, length, slice_index_or, sum_by}
use Rattle.definitions.specs.declared.limits.TheConstants.{UNIT_LIMIT}
use Rattle.demand.specs.declared.tables.Pair.{Pair}
use Rattle.demand.specs.declared.tables.WalkRow.{WalkRow}
use Rattle.demand.specs.declared.tables.ZoneLink.{ZoneLink}

-- a link of one of so many zones and one of so many stops
pub record IsLinkAmong (zones stops : ℕ) (link : ZoneLink) : Type 0 where
  pub zone : link.zone < zones
  pub stop : link.stop < stops

-- a walk between two of so many stops
pub record IsWalkAmong (stops : ℕ) (walk : WalkRow) : Type 0 where
  pub from : walk.from < stops
  pub to : walk.to < stops

-- a pair of two of so many zones, with units
pub record IsPairAmong (zones : ℕ) (pair : Pair) : Type 0 where
  pub origin : pair.origin < zones
  pub destination : pair.destination < zones
  pub apart : pair.origin ≢ pair.destination
  pub some : 0 < pair.units

-- a pair stands before another: by destination, and then by origin
abbrev pub IsBefore : Pair → Pair → Type 0
IsBefore pair next = (pair.destination < next.destination) ⊎ ((pair.destination ≡ next.destination) × (pair.origin < next.origin))

-- pairs stand by destination and then by origin, no two of the same zones
abbrev pub AreInOrder : List Pair → Type 0
AreInOrder pairs = (place later : ℕ) (d : Pair) → place < later → later < length pairs → IsBefore (slice_index_or pairs place d) (slice_index_or pairs later d)

-- pairs in order have these units, no more than there may be
pub record IsDemand (pairs : List Pair) (units : ℕ) : Type 0 where
  pub ordered : AreInOrder pairs
  pub total : sum_by (λ pair. pair.units) pairs ≡ units
  pub within : units ≤ UNIT_LIMIT
