-- The calls of the trips of trips.txt, from the rows of stop_times.txt as they stand in the file.
use Rattle.std.specs.Prelude.{◌==◌, ℕ, Bool, not, List, [], ◌∷◌, Option, Some, None, map, filter, flat_map}
use Rattle.std.specs.List.{range_with_len}
use Rattle.feed_reader.specs.declared.fault.FeedFault.{FeedFault}
use Rattle.feed_reader.specs.declared.order.TripCall.{TripCall}
use Rattle.feed_reader.specs.declared.row_call.RowCall.{RowCall}
use Rattle.feed_reader.specs.declared.timetable.Call.{Call}
use Rattle.feed_reader.specs.Calls.{calls_of, is_aside, trip_call_faults}
use Rattle.feed_reader.specs.Faults.{Fields}
use Rattle.feed_reader.specs.StopTimes.{in_sequence}

-- the trip of a row, by its number among the rows of trips.txt
abbrev pub trip_number : TripCall → ℕ
trip_number row = row.trip

-- the sequence of a call
abbrev pub sequence_of : RowCall → ℕ
sequence_of call = call.sequence

-- whether a row is of a trip
abbrev pub is_of : ℕ → TripCall → Bool
is_of trip row = trip_number row == trip

-- the calls of rows by sequence
abbrev pub calls_by_sequence : List TripCall → List RowCall
calls_by_sequence rows = in_sequence (map (λ row. row.call) rows)

-- the calls of a trip by sequence
abbrev pub trip_calls : List TripCall → ℕ → List RowCall
trip_calls rows trip = calls_by_sequence (filter (is_of trip) rows)

-- whether a trip is not set aside
abbrev pub is_kept : List TripCall → ℕ → Bool
is_kept rows trip = not (is_aside (trip_calls rows trip))

-- of each of so many trips, whether it is not set aside
abbrev pub kept_of : List TripCall → ℕ → List Bool
kept_of rows trips = map (is_kept rows) (range_with_len 0 trips)

-- the calls of each of so many trips that is not set aside
abbrev pub lists_of : List TripCall → ℕ → List (List Call)
lists_of rows trips = map (λ trip. calls_of (trip_calls rows trip)) (filter (is_kept rows) (range_with_len 0 trips))

-- the faults of so many trips, one trip after the other
abbrev pub faults_of_trips : List TripCall → ℕ → List Fields → List FeedFault
faults_of_trips rows trips fields = flat_map (λ trip. trip_call_faults fields (trip_calls rows trip)) (range_with_len 0 trips)

-- the calls of a trip as a list of lists, none where it is set aside
abbrev pub list_kept : Option (List Call) → List (List Call)
list_kept None = []
list_kept (Some calls) = calls ∷ []
