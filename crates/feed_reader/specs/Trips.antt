-- The trips of trips.txt. After the GTFS Schedule reference, trips.txt. Here: docs/FORMATS.md.
use Rattle.std.specs.Prelude.{◌++◌, ℕ, List, map, not, unwrap_or, codes}
use Rattle.feed_reader.specs.declared.fault.FeedFault.{FeedFault}
use Rattle.feed_reader.specs.declared.fault.FeedFault.TheVariants as fault
use Rattle.feed_reader.specs.declared.timetable.Trip.{Trip}
use Rattle.feed_reader.specs.Columns.{trips_file}
use Rattle.feed_reader.specs.Faults.{Fields, bad_field, fault_if, faults_of_rows, field, is_empty, place_in, row_at}
use Rattle.feed_reader.specs.Ids.{is_known, number_of, stood_before}

-- the field of a row that names its route
abbrev pub trip_route : Fields → List ℕ
trip_route row = field row 0

-- the field of a row that names its service
abbrev pub trip_service : Fields → List ℕ
trip_service row = field row 1

-- the field of a row with the id of its trip
abbrev pub trip_id : Fields → List ℕ
trip_id row = field row 2

-- the faults of a row: an unknown route, an empty service, an empty id, an id that stood before
abbrev pub trip_faults : List (List ℕ) → List Fields → ℕ → List FeedFault
trip_faults routes rows number =
    fault_if (not (is_known routes (trip_route (row_at rows number)))) (fault.UnknownId (place_in trips_file number (codes "route_id") (trip_route (row_at rows number))))
    ++ fault_if (is_empty (trip_service (row_at rows number))) (bad_field (place_in trips_file number (codes "service_id") (trip_service (row_at rows number))))
    ++ fault_if (is_empty (trip_id (row_at rows number))) (bad_field (place_in trips_file number (codes "trip_id") (trip_id (row_at rows number))))
    ++ fault_if (stood_before (map trip_id rows) number) (fault.DoubleId (place_in trips_file number (codes "trip_id") (trip_id (row_at rows number))))

-- the faults of all rows of trips.txt
abbrev pub trips_faults : List (List ℕ) → List Fields → List FeedFault
trips_faults routes rows = faults_of_rows (trip_faults routes rows) rows

-- a trip, by the numbers of its route and its service
abbrev pub trip_of : List (List ℕ) → List (List ℕ) → Fields → Trip
trip_of routes services row = record {
  id = trip_id row;
  route = unwrap_or (number_of routes (trip_route row)) 0;
  service = unwrap_or (number_of services (trip_service row)) 0;
}
