-- What is read of a row of stop_times.txt, and its faults part by part.
use Rattle.std.specs.Prelude.{◌&&◌, ◌++◌, ℕ, not, List, map, is_none, unwrap_or, codes}
use Rattle.std.specs.List.{enumerate_from}
use Rattle.gtfs_rows.specs.Fields.{whole_of}
use Rattle.feed_reader.specs.declared.fault.FeedFault.{FeedFault}
use Rattle.feed_reader.specs.declared.fault.FeedFault.TheVariants as fault
use Rattle.feed_reader.specs.declared.order.TripCall.{TripCall}
use Rattle.feed_reader.specs.Columns.{stop_times_file}
use Rattle.feed_reader.specs.Faults.{Fields, bad_field, fault_if, is_empty, place_in}
use Rattle.feed_reader.specs.Ids.{is_known, number_of}
use Rattle.feed_reader.specs.StopTimes.{arrival_field, call_stop, call_trip, departure_field, drop_field, kind_faults, pickup_field, row_call, sequence_field, time_faults}

-- a row as a call, with the number of its trip among these
abbrev pub trip_call : List (List ℕ) → List (List ℕ) → ℕ × Fields → TripCall
trip_call trips stops numbered = record { trip = unwrap_or (number_of trips (call_trip numbered.1)) 0; call = row_call stops numbered }

-- all rows so, in file order
abbrev pub trip_call_rows : List (List ℕ) → List (List ℕ) → List Fields → List TripCall
trip_call_rows trips stops rows = map (trip_call trips stops) (enumerate_from 0 rows)

-- the fault of a trip that is not known
abbrev pub trip_id_faults : List (List ℕ) → ℕ → List ℕ → List FeedFault
trip_id_faults trips number id = fault_if (not (is_known trips id)) (fault.UnknownId (place_in stop_times_file number (codes "trip_id") id))

-- the faults of the two times
abbrev pub times_faults : ℕ → Fields → List FeedFault
times_faults number row = time_faults number (codes "arrival_time") (arrival_field row) ++ time_faults number (codes "departure_time") (departure_field row)

-- the fault of a stop that is not empty and not known
abbrev pub stop_id_faults : List (List ℕ) → ℕ → List ℕ → List FeedFault
stop_id_faults ids number id = fault_if (not (is_empty id) && not (is_known ids id)) (fault.UnknownId (place_in stop_times_file number (codes "stop_id") id))

-- the fault of a sequence that is no number
abbrev pub sequence_faults : ℕ → List ℕ → List FeedFault
sequence_faults number bytes = fault_if (is_none (whole_of bytes)) (bad_field (place_in stop_times_file number (codes "stop_sequence") bytes))

-- the faults of pickup and drop-off
abbrev pub kinds_faults : ℕ → Fields → List FeedFault
kinds_faults number row = kind_faults number (codes "pickup_type") (pickup_field row) ++ kind_faults number (codes "drop_off_type") (drop_field row)

-- the faults of a row but for its trip
abbrev pub own_faults : List (List ℕ) → ℕ → Fields → List FeedFault
own_faults ids number row = times_faults number row ++ (stop_id_faults ids number (call_stop row) ++ (sequence_faults number (sequence_field row) ++ kinds_faults number row))
