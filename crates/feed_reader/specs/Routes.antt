-- The routes of routes.txt. After the GTFS Schedule reference, routes.txt. Here: docs/FORMATS.md.
use Rattle.std.specs.Prelude.{◌++◌, ℕ, List, map, codes}
use Rattle.feed_reader.specs.declared.fault.FeedFault.{FeedFault}
use Rattle.feed_reader.specs.declared.fault.FeedFault.TheVariants as fault
use Rattle.feed_reader.specs.Columns.{routes_file}
use Rattle.feed_reader.specs.Faults.{Fields, bad_field, fault_if, faults_of_rows, field, is_empty, place_in, row_at}
use Rattle.feed_reader.specs.Ids.{stood_before}

-- the field of a row with the id of its route
abbrev pub route_id : Fields → List ℕ
route_id row = field row 0

-- the faults of a row: an empty id, an id that stood before
abbrev pub route_faults : List Fields → ℕ → List FeedFault
route_faults rows number =
    fault_if (is_empty (route_id (row_at rows number))) (bad_field (place_in routes_file number (codes "route_id") (route_id (row_at rows number))))
    ++ fault_if (stood_before (map route_id rows) number) (fault.DoubleId (place_in routes_file number (codes "route_id") (route_id (row_at rows number))))

-- the faults of all rows of routes.txt
abbrev pub routes_faults : List Fields → List FeedFault
routes_faults rows = faults_of_rows (route_faults rows) rows

-- the ids of the routes, in file order
abbrev pub routes_of : List Fields → List (List ℕ)
routes_of rows = map route_id rows
