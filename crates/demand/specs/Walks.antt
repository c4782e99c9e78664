-- The walks between stops. Here: docs/FORMATS.md.
use Rattle.std.specs.Prelude.{◌++◌, ℕ, Bool, List, map, filter, not, is_none, codes, unwrap_or}
use Rattle.std.specs.Str.{bytes_eq}
use Rattle.gtfs_rows.specs.Fields.{whole_of}
use Rattle.feed_reader.specs.Faults.{Fields, field, place_in, row_at}
use Rattle.feed_reader.specs.Ids.{is_known, number_of}
use Rattle.demand.specs.declared.fault.DemandFault.{DemandFault}
use Rattle.demand.specs.declared.fault.DemandFault.TheVariants as fault
use Rattle.demand.specs.declared.tables.WalkRow.{WalkRow}
use Rattle.demand.specs.Columns.{walks_file}
use Rattle.demand.specs.Faults.{bad_field, fault_if, faults_of_rows}

-- the stop at which the walk of a row begins
abbrev pub from_field : Fields → List ℕ
from_field row = field row 0

-- the stop at which it ends
abbrev pub to_field : Fields → List ℕ
to_field row = field row 1

-- its seconds
abbrev pub walk_field : Fields → List ℕ
walk_field row = field row 2

-- the faults of a row, where the feed has these stops: an unknown stop, the first one tried first, and seconds that are no number
abbrev pub walk_field_faults : List (List ℕ) → Fields → ℕ → List DemandFault
walk_field_faults stops row number =
    fault_if (not (is_known stops (from_field row))) (fault.UnknownStop (place_in walks_file number (codes "from_stop_id") (from_field row)))
    ++ fault_if (not (is_known stops (to_field row))) (fault.UnknownStop (place_in walks_file number (codes "to_stop_id") (to_field row)))
    ++ fault_if (is_none (whole_of (walk_field row))) (bad_field (place_in walks_file number (codes "walk_secs") (walk_field row)))

-- the faults of the row of a number
abbrev pub walk_faults : List (List ℕ) → List Fields → ℕ → List DemandFault
walk_faults stops rows number = walk_field_faults stops (row_at rows number) number

-- the faults of all rows
abbrev pub walks_faults : List (List ℕ) → List Fields → List DemandFault
walks_faults stops rows = faults_of_rows (walk_faults stops rows) rows

-- whether a row leads from a stop to another one
abbrev pub leads_on : Fields → Bool
leads_on row = not (bytes_eq (from_field row) (to_field row))

-- the walk of a row, by the numbers of its stops
abbrev pub walk_of : List (List ℕ) → Fields → WalkRow
walk_of stops row = record {
  from = unwrap_or (number_of stops (from_field row)) 0;
  to = unwrap_or (number_of stops (to_field row)) 0;
  seconds = unwrap_or (whole_of (walk_field row)) 0;
}

-- the walks of the rows that lead from a stop to another one, in their order
abbrev pub walks_of : List (List ℕ) → List Fields → List WalkRow
walks_of stops rows = map (walk_of stops) (filter leads_on rows)
