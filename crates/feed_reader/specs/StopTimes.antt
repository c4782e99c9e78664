-- The rows of stop_times.txt, and those of one trip by sequence. After the GTFS Schedule reference, stop_times.txt.
-- Here: docs/FORMATS.md.
use Rattle.std.specs.Prelude.{◌==◌, ◌&&◌, ◌++◌, ℕ, Bool, not, List, [], ◌∷◌, map, filter, is_none, unwrap_or, nat_lt, codes, if◌then◌else◌}
use Rattle.std.specs.List.{enumerate_from}
use Rattle.std.specs.Str.{bytes_eq}
use Rattle.gtfs_rows.specs.Fields.{clock_of, whole_of}
use Rattle.feed_reader.specs.declared.fault.FeedFault.{FeedFault}
use Rattle.feed_reader.specs.declared.fault.FeedFault.TheVariants as fault
use Rattle.feed_reader.specs.declared.row_call.RowCall.{RowCall}
use Rattle.feed_reader.specs.Columns.{stop_times_file}
use Rattle.feed_reader.specs.Faults.{Fields, bad_field, fault_if, faults_of_rows, field, is_empty, place_in, row_at, whole_or}
use Rattle.feed_reader.specs.Ids.{is_known, number_of}

-- the field of a row that names its trip
abbrev pub call_trip : Fields → List ℕ
call_trip row = field row 0

-- the field of a row with its arrival
abbrev pub arrival_field : Fields → List ℕ
arrival_field row = field row 1

-- the field of a row with its departure
abbrev pub departure_field : Fields → List ℕ
departure_field row = field row 2

-- the field of a row that names its stop
abbrev pub call_stop : Fields → List ℕ
call_stop row = field row 3

-- the field of a row with its sequence
abbrev pub sequence_field : Fields → List ℕ
sequence_field row = field row 4

-- the field of a row that says whether passengers may board
abbrev pub pickup_field : Fields → List ℕ
pickup_field row = field row 5

-- the field of a row that says whether passengers may alight
abbrev pub drop_field : Fields → List ℕ
drop_field row = field row 6

-- the fault of a field that is neither empty nor a time
abbrev pub time_faults : ℕ → List ℕ → List ℕ → List FeedFault
time_faults number column bytes =
    fault_if (not (is_empty bytes) && is_none (clock_of bytes)) (bad_field (place_in stop_times_file number column bytes))

-- the fault of a field that is neither empty nor a number
abbrev pub kind_faults : ℕ → List ℕ → List ℕ → List FeedFault
kind_faults number column bytes = fault_if (is_none (whole_or 0 bytes)) (bad_field (place_in stop_times_file number column bytes))

-- the faults of a row, where trips.txt has these trips and stops.txt these ids: an unknown trip, a time that is none,
-- a stop that is not empty and not known, a sequence that is no number, and the same of pickup and drop-off
abbrev pub call_faults : List (List ℕ) → List (List ℕ) → List Fields → ℕ → List FeedFault
call_faults trips ids rows number =
    fault_if (not (is_known trips (call_trip (row_at rows number)))) (fault.UnknownId (place_in stop_times_file number (codes "trip_id") (call_trip (row_at rows number))))
    ++ time_faults number (codes "arrival_time") (arrival_field (row_at rows number))
    ++ time_faults number (codes "departure_time") (departure_field (row_at rows number))
    ++ fault_if (not (is_empty (call_stop (row_at rows number))) && not (is_known ids (call_stop (row_at rows number))))
    (fault.UnknownId (place_in stop_times_file number (codes "stop_id") (call_stop (row_at rows number))))
    ++ fault_if (is_none (whole_of (sequence_field (row_at rows number)))) (bad_field (place_in stop_times_file number (codes "stop_sequence") (sequence_field (row_at rows number))))
    ++ kind_faults number (codes "pickup_type") (pickup_field (row_at rows number))
    ++ kind_faults number (codes "drop_off_type") (drop_field (row_at rows number))

-- the faults of the rows, before any trip is looked at
abbrev pub calls_faults : List (List ℕ) → List (List ℕ) → List Fields → List FeedFault
calls_faults trips ids rows = faults_of_rows (call_faults trips ids rows) rows

-- whether a kind of pickup or drop-off says that there is one: each but 1, and an empty field
abbrev pub is_available : List ℕ → Bool
is_available bytes = not (unwrap_or (whole_or 0 bytes) 0 == 1)

-- a row as a call, where these are the ids of the stops; rows are numbered from 0 behind the header
abbrev pub row_call : List (List ℕ) → ℕ × Fields → RowCall
row_call stops numbered = record {
  row = numbered.0;
  sequence = unwrap_or (whole_of (sequence_field numbered.1)) 0;
  stop = number_of stops (call_stop numbered.1);
  arrival = clock_of (arrival_field numbered.1);
  departure = clock_of (departure_field numbered.1);
  pickup = is_available (pickup_field numbered.1);
  drop = is_available (drop_field numbered.1);
}

-- a call among calls by sequence, in front of those of its own sequence
unfoldable pub placed : RowCall → List RowCall → List RowCall
placed call [] = call ∷ []
placed call (first ∷ rest) = if nat_lt first.sequence call.sequence then first ∷ placed call rest else call ∷ first ∷ rest

-- calls by sequence, those of one sequence as they stand
unfoldable pub in_sequence : List RowCall → List RowCall
in_sequence [] = []
in_sequence (first ∷ rest) = placed first (in_sequence rest)

-- the calls of the rows of a trip, as they stand in the file
abbrev pub rows_of_trip : List (List ℕ) → List Fields → List ℕ → List RowCall
rows_of_trip stops rows trip = map (row_call stops) (filter (λ numbered. bytes_eq trip (call_trip numbered.1)) (enumerate_from 0 rows))

-- the same by sequence
abbrev pub row_calls : List (List ℕ) → List Fields → List ℕ → List RowCall
row_calls stops rows trip = in_sequence (rows_of_trip stops rows trip)
