-- The transfers of transfers.txt. After the GTFS Schedule reference, transfers.txt. Here: docs/FORMATS.md.
use Rattle.std.specs.Prelude.{◌==◌, ◌||◌, ◌&&◌, ◌++◌, ℕ, Bool, not, List, Option, None, map, filter_map, is_none, count_by, option_map, option_and_then, unwrap_or, codes, if◌then◌else◌}
use Rattle.std.specs.Str.{bytes_eq}
use Rattle.feed_reader.specs.declared.fault.FeedFault.{FeedFault}
use Rattle.feed_reader.specs.declared.fault.FeedFault.TheVariants as fault
use Rattle.feed_reader.specs.declared.timetable.Side.{Side}
use Rattle.feed_reader.specs.declared.timetable.Transfer.{Transfer}
use Rattle.feed_reader.specs.Columns.{transfers_file}
use Rattle.feed_reader.specs.Faults.{Fields, bad_field, fault_if, faults_of_rows, field, is_empty, place_in, row_at, whole_or}
use Rattle.feed_reader.specs.Ids.{is_known}
use Rattle.feed_reader.specs.Stops.{side_named, stop_id}

-- the seconds of a transfer whose row states none
abbrev pub TRANSFER_SECONDS : ℕ
TRANSFER_SECONDS = 120

-- the field of a row that names the side from which it leads
abbrev pub from_field : Fields → List ℕ
from_field row = field row 0

-- the field of a row that names the side to which it leads
abbrev pub to_field : Fields → List ℕ
to_field row = field row 1

-- the field of a row with its type
abbrev pub kind_field : Fields → List ℕ
kind_field row = field row 2

-- the field of a row with its seconds
abbrev pub seconds_field : Fields → List ℕ
seconds_field row = field row 3

-- the type of a row, 0 where the field is empty
abbrev pub kind_of : Fields → ℕ
kind_of row = unwrap_or (whole_or 0 (kind_field row)) 0

-- whether a row is of some route or trip alone, has one side or none, has one side twice, or is of passengers who stay seated
abbrev pub is_passed_over : Fields → Bool
is_passed_over row =
    not (is_empty (field row 4)) || not (is_empty (field row 5)) || not (is_empty (field row 6)) || not (is_empty (field row 7))
    || is_empty (from_field row) || is_empty (to_field row) || bytes_eq (from_field row) (to_field row)
    || (kind_of row == 4) || (kind_of row == 5)

-- the fault of a side of a row that is not passed over: an id that stops.txt does not have
abbrev pub side_faults : List Fields → ℕ → Fields → List ℕ → List ℕ → List FeedFault
side_faults stops number row column bytes =
    fault_if (not (is_passed_over row) && not (is_known (map stop_id stops) bytes)) (fault.UnknownId (place_in transfers_file number column bytes))

-- the faults of a row, where these are the rows of stops.txt: a type or seconds that are no number, an unknown side
abbrev pub transfer_faults : List Fields → List Fields → ℕ → List FeedFault
transfer_faults stops rows number =
    fault_if (is_none (whole_or 0 (kind_field (row_at rows number)))) (bad_field (place_in transfers_file number (codes "transfer_type") (kind_field (row_at rows number))))
    ++ fault_if (is_none (whole_or 0 (seconds_field (row_at rows number)))) (bad_field (place_in transfers_file number (codes "min_transfer_time") (seconds_field (row_at rows number))))
    ++ side_faults stops number (row_at rows number) (codes "from_stop_id") (from_field (row_at rows number))
    ++ side_faults stops number (row_at rows number) (codes "to_stop_id") (to_field (row_at rows number))

-- the faults of all rows of transfers.txt
abbrev pub transfers_faults : List Fields → List Fields → List FeedFault
transfers_faults stops rows = faults_of_rows (transfer_faults stops rows) rows

-- a transfer between two sides; type 3 bars it
abbrev pub transfer_with : Fields → Side → Side → Transfer
transfer_with row from to = record { from = from; to = to; barred = kind_of row == 3; seconds = unwrap_or (whole_or TRANSFER_SECONDS (seconds_field row)) 0 }

-- the transfer of a row, None where the row is set aside: it is passed over, or a side is neither a stop nor a station
abbrev pub transfer_of : List Fields → Fields → Option Transfer
transfer_of stops row =
    if is_passed_over row then None
    else option_and_then (λ from. option_map (transfer_with row from) (side_named stops (to_field row))) (side_named stops (from_field row))

-- the transfers of the rows, in file order
abbrev pub transfers_of : List Fields → List Fields → List Transfer
transfers_of stops rows = filter_map (transfer_of stops) rows

-- how many rows are set aside
abbrev pub transfers_aside : List Fields → List Fields → ℕ
transfers_aside stops rows = count_by (λ row. is_none (transfer_of stops row)) rows
