-- The stops and stations of stops.txt. After the GTFS Schedule reference, stops.txt. Here: docs/FORMATS.md.
use Rattle.std.specs.Prelude.{◌==◌, ◌++◌, ℕ, Bool, List, Option, Some, None, map, filter, is_none, codes, option_map}
use Rattle.std.specs.Option.{option_map_or}
use Rattle.feed_reader.specs.declared.fault.FeedFault.{FeedFault}
use Rattle.feed_reader.specs.declared.fault.FeedFault.TheVariants as fault
use Rattle.feed_reader.specs.declared.timetable.Side.{Side}
use Rattle.feed_reader.specs.declared.timetable.Side.TheVariants as side
use Rattle.feed_reader.specs.declared.timetable.Stop.{Stop}
use Rattle.feed_reader.specs.Columns.{stops_file}
use Rattle.feed_reader.specs.Faults.{Fields, bad_field, fault_if, faults_of_rows, field, is_empty, place_in, row_at, whole_or}
use Rattle.feed_reader.specs.Ids.{number_of, stood_before}

-- the field of a row with its id
abbrev pub stop_id : Fields → List ℕ
stop_id row = field row 0

-- the field of a row with its type
abbrev pub type_field : Fields → List ℕ
type_field row = field row 1

-- the field of a row that names its station
abbrev pub parent_id : Fields → List ℕ
parent_id row = field row 2

-- whether a row is of this type: 0 is a stop, also where the field is empty, and 1 a station
abbrev pub has_type : ℕ → Fields → Bool
has_type type row = option_map_or (λ t. t == type) (whole_or 0 (type_field row)) Bool.false

-- the ids of the stops, in file order
abbrev pub stop_ids : List Fields → List (List ℕ)
stop_ids rows = map stop_id (filter (has_type 0) rows)

-- the ids of the stations, in file order
abbrev pub station_ids : List Fields → List (List ℕ)
station_ids rows = map stop_id (filter (has_type 1) rows)

-- the faults of a row: an empty id, an id that stood before, a type that is no number
abbrev pub stop_faults : List Fields → ℕ → List FeedFault
stop_faults rows number =
    fault_if (is_empty (stop_id (row_at rows number))) (bad_field (place_in stops_file number (codes "stop_id") (stop_id (row_at rows number))))
    ++ fault_if (stood_before (map stop_id rows) number) (fault.DoubleId (place_in stops_file number (codes "stop_id") (stop_id (row_at rows number))))
    ++ fault_if (is_none (whole_or 0 (type_field (row_at rows number)))) (bad_field (place_in stops_file number (codes "location_type") (type_field (row_at rows number))))

-- the faults of all rows of stops.txt
abbrev pub stops_faults : List Fields → List FeedFault
stops_faults rows = faults_of_rows (stop_faults rows) rows

-- a stop; its parent is the station that its row names, if it names one
abbrev pub stop_of : List (List ℕ) → Fields → Stop
stop_of stations row = record { id = stop_id row; parent = number_of stations (parent_id row) }

-- the stops of the rows
abbrev pub stops_of : List Fields → List Stop
stops_of rows = map (stop_of (station_ids rows)) (filter (has_type 0) rows)

-- the first of two that is there
abbrev pub or_else : {X : Type 0} → Option X → Option X → Option X
or_else None other = other
or_else (Some x) other = Some x

-- the stop or the station that an id names, None where it names neither
abbrev pub side_named : List Fields → List ℕ → Option Side
side_named rows id = or_else (option_map side.Stop (number_of (stop_ids rows) id)) (option_map side.Station (number_of (station_ids rows) id))
