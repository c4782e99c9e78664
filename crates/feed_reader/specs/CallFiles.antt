-- The faults and the calls of the rows of stop_times.txt, by the ids of the trips and the rows of stops.txt.
use Rattle.std.specs.Prelude.{◌++◌, ℕ, Bool, not, List, map, filter, flat_map}
use Rattle.gtfs_rows.specs.Sheets.{sheet_of}
use Rattle.feed_reader.specs.declared.fault.FeedFault.{FeedFault}
use Rattle.feed_reader.specs.declared.timetable.Call.{Call}
use Rattle.feed_reader.specs.Calls.{calls_of, is_aside, trip_call_faults}
use Rattle.feed_reader.specs.Columns.{stop_time_columns}
use Rattle.feed_reader.specs.Faults.{Fields}
use Rattle.feed_reader.specs.Stops.{stop_id, stop_ids}
use Rattle.feed_reader.specs.StopTimes.{calls_faults, row_calls}

-- the rows of the bytes of stop_times.txt
abbrev pub rows_in : List ℕ → List Fields
rows_in bytes = (sheet_of bytes stop_time_columns).rows

-- whether the trip of an id is not set aside
abbrev pub is_kept_id : List Fields → List Fields → List ℕ → Bool
is_kept_id stops rows id = not (is_aside (row_calls (stop_ids stops) rows id))

-- the calls of the trips that are not set aside
abbrev pub kept_lists : List Fields → List Fields → List (List ℕ) → List (List Call)
kept_lists stops rows trips = map (λ id. calls_of (row_calls (stop_ids stops) rows id)) (filter (is_kept_id stops rows) trips)

-- the faults of the trips, one trip after the other
abbrev pub trips_call_faults : List Fields → List Fields → List (List ℕ) → List FeedFault
trips_call_faults stops rows trips = flat_map (λ id. trip_call_faults rows (row_calls (stop_ids stops) rows id)) trips

-- the faults of the rows, and then of each trip
abbrev pub call_file_faults : List Fields → List (List ℕ) → List Fields → List FeedFault
call_file_faults stops trips rows = calls_faults trips (map stop_id stops) rows ++ trips_call_faults stops rows trips
