-- The demand of a table of amounts of trips between zones. Here: docs/FORMATS.md.
use Rattle.std.specs.Prelude.{◌+◌, ◌++◌, ℕ, Bool, List, map, filter, take, length, not, is_none, nat_lt, codes, sum_by, count_by, unwrap_or}
use Rattle.std.specs.Option.{option_map_or}
use Rattle.std.specs.Str.{bytes_eq}
use Rattle.definitions.specs.declared.limits.TheConstants.{UNIT_LIMIT}
use Rattle.gtfs_rows.specs.Fields.{trips_of}
use Rattle.feed_reader.specs.Faults.{Fields, field, place_in, row_at}
use Rattle.feed_reader.specs.Ids.{is_known, number_of}
use Rattle.demand.specs.declared.fault.DemandFault.{DemandFault}
use Rattle.demand.specs.declared.fault.DemandFault.TheVariants as fault
use Rattle.demand.specs.declared.fault.Limit.TheVariants as limit
use Rattle.demand.specs.declared.tables.Pair.{Pair}
use Rattle.demand.specs.Columns.{demand_file}
use Rattle.demand.specs.Faults.{bad_field, fault_if, faults_of_rows}
use Rattle.demand.specs.Pairs.{pairs_of}

-- the zone that the trips of a row leave
abbrev pub origin_field : Fields → List ℕ
origin_field row = field row 0

-- the zone that they go to
abbrev pub destination_field : Fields → List ℕ
destination_field row = field row 1

-- how many they are
abbrev pub trips_field : Fields → List ℕ
trips_field row = field row 2

-- the units of a row
abbrev pub units_in : Fields → ℕ
units_in row = option_map_or (λ trips. trips.units) (trips_of (trips_field row)) 0

-- whether a row lost a digit
abbrev pub loses_digits : Fields → Bool
loses_digits row = option_map_or (λ trips. trips.dropped) (trips_of (trips_field row)) Bool.false

-- whether a row is inside one zone
abbrev pub is_inside : Fields → Bool
is_inside row = bytes_eq (origin_field row) (destination_field row)

-- whether a row is between two zones
abbrev pub is_between : Fields → Bool
is_between row = not (is_inside row)

-- the units of the rows between two zones
abbrev pub units_between : List Fields → ℕ
units_between rows = sum_by units_in (filter is_between rows)

-- the faults of the fields of a row, where these are the zones: an unknown zone, the origin tried first, and an amount that is none
abbrev pub demand_field_faults : List (List ℕ) → Fields → ℕ → List DemandFault
demand_field_faults zones row number =
    fault_if (not (is_known zones (origin_field row))) (fault.UnknownZone (place_in demand_file number (codes "origin") (origin_field row)))
    ++ fault_if (not (is_known zones (destination_field row))) (fault.UnknownZone (place_in demand_file number (codes "destination") (destination_field row)))
    ++ fault_if (is_none (trips_of (trips_field row))) (bad_field (place_in demand_file number (codes "trips") (trips_field row)))

-- the fault of so many units: they are more than the limit
abbrev pub unit_limit_faults : ℕ → List DemandFault
unit_limit_faults units = fault_if (nat_lt UNIT_LIMIT units) (fault.Range limit.Units units)

-- the faults of a row: those of its fields, then that with it the rows between two zones have too many units
abbrev pub demand_row_faults : List (List ℕ) → List Fields → ℕ → List DemandFault
demand_row_faults zones rows number =
    demand_field_faults zones (row_at rows number) number ++ unit_limit_faults (units_between (take (number + 1) rows))

-- the faults of all rows
abbrev pub demand_faults : List (List ℕ) → List Fields → List DemandFault
demand_faults zones rows = faults_of_rows (demand_row_faults zones rows) rows

-- the amount of a row, by the numbers of its zones
abbrev pub amount_of : List (List ℕ) → Fields → Pair
amount_of zones row = record {
  origin = unwrap_or (number_of zones (origin_field row)) 0;
  destination = unwrap_or (number_of zones (destination_field row)) 0;
  units = units_in row;
}

-- the amounts of the rows between two zones
abbrev pub amounts_of : List (List ℕ) → List Fields → List Pair
amounts_of zones rows = map (amount_of zones) (filter is_between rows)

-- what a contract sees of a demand: its pairs and their units, the units inside zones, and how many rows lost a digit
pub record DemandData : Type 0 where
  pub pairs : List Pair
  pub units : ℕ
  pub inside : ℕ
  pub dropped : ℕ

-- the demand of the rows
abbrev pub demand_of : List (List ℕ) → List Fields → DemandData
demand_of zones rows = record {
  pairs = pairs_of (length zones) (amounts_of zones rows);
  units = units_between rows;
  inside = sum_by units_in (filter is_inside rows);
  dropped = count_by loses_digits rows;
}
