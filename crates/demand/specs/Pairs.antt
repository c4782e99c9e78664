-- The demand of pairs of zones. Here: docs/FORMATS.md.
use Rattle.std.specs.Prelude.{◌==◌, ◌&&◌, ℕ, Bool, List, map, filter, flat_map, nat_lt, sum_by}
use Rattle.std.specs.List.{range_with_len}
use Rattle.demand.specs.declared.tables.Pair.{Pair}

-- whether a pair is that of an origin and a destination
abbrev pub is_of : ℕ → ℕ → Pair → Bool
is_of origin destination pair = (pair.origin == origin) && (pair.destination == destination)

-- the units from an origin to a destination, in all amounts
abbrev pub units_from_to : List Pair → ℕ → ℕ → ℕ
units_from_to amounts origin destination = sum_by (λ pair. pair.units) (filter (is_of origin destination) amounts)

-- whether a pair has units
abbrev pub has_units : Pair → Bool
has_units pair = nat_lt 0 pair.units

-- an origin and a destination with their units
abbrev pub pair_at : List Pair → ℕ → ℕ → Pair
pair_at amounts destination origin = record { origin = origin; destination = destination; units = units_from_to amounts origin destination }

-- the origins of a destination in order, each with its units to there
abbrev pub pairs_to : ℕ → List Pair → ℕ → List Pair
pairs_to zones amounts destination = map (pair_at amounts destination) (range_with_len 0 zones)

-- the pairs of so many zones that have units, by destination and then by origin
abbrev pub pairs_of : ℕ → List Pair → List Pair
pairs_of zones amounts = filter has_units (flat_map (pairs_to zones amounts) (range_with_len 0 zones))
