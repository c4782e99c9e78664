-- The calls of one trip from its rows by sequence: what is at fault, what is set aside, and the times of rows that have
-- none. Here: docs/FORMATS.md.
use Rattle.std.specs.Prelude.{◌+◌, ◌-◌, ◌*◌, ◌/◌, ◌==◌, ◌||◌, ◌++◌, ℕ, Bool, not, List, [], Option, Some, None, map, filter, find, zip, drop, flat_map, length, is_none, is_some, nat_lt, unwrap_or, if◌then◌else◌, slice_get, codes, option_and_then}
use Rattle.std.specs.List.{enumerate_from, last_or, list_any, range_with_len}
use Rattle.std.specs.Option.{option_map_or}
use Rattle.feed_reader.specs.declared.fault.FeedFault.{FeedFault}
use Rattle.feed_reader.specs.declared.fault.FeedFault.TheVariants as fault
use Rattle.feed_reader.specs.declared.row_call.RowCall.{RowCall}
use Rattle.feed_reader.specs.declared.timetable.Call.{Call}
use Rattle.feed_reader.specs.Columns.{stop_times_file}
use Rattle.feed_reader.specs.Faults.{Fields, fault_if, is_empty, place_in, row_at}
use Rattle.feed_reader.specs.StopTimes.{arrival_field, departure_field, sequence_field}

-- an arrival and a departure; a single time stands for both
abbrev pub both : Option ℕ → Option ℕ → Option (ℕ × ℕ)
both None None = None
both (Some arrival) None = Some (arrival, arrival)
both None (Some departure) = Some (departure, departure)
both (Some arrival) (Some departure) = Some (arrival, departure)

-- the times of a row; a row without is untimed
abbrev pub times_of : RowCall → Option (ℕ × ℕ)
times_of call = both call.arrival call.departure

-- the times of the call at a place
abbrev pub times_at : List RowCall → ℕ → Option (ℕ × ℕ)
times_at calls place = option_and_then times_of (slice_get calls place)

-- whether the call at a place is timed
abbrev pub is_timed : List RowCall → ℕ → Bool
is_timed calls place = is_some (times_at calls place)

-- whether a trip is set aside: it has fewer than two rows, a row at no stop, or a first or last row without a time
abbrev pub is_aside : List RowCall → Bool
is_aside calls = nat_lt (length calls) 2
    || (list_any (λ call. is_none call.stop) calls || (not (is_timed calls 0) || not (is_timed calls (length calls - 1))))

-- the last timed place before this one
abbrev pub timed_before : List RowCall → ℕ → Option ℕ
timed_before calls place = last_or None (filter (is_timed calls) (range_with_len 0 place))

-- the first timed place from this one on
abbrev pub timed_from : List RowCall → ℕ → Option ℕ
timed_from calls place = find (is_timed calls) (range_with_len place (length calls - place))

-- the arrival at a place, 0 where there is none
abbrev pub arrival_at : List RowCall → ℕ → ℕ
arrival_at calls place = option_map_or (λ times. times.0) (times_at calls place) 0

-- the departure from a place, 0 where there is none
abbrev pub departure_at : List RowCall → ℕ → ℕ
departure_at calls place = option_map_or (λ times. times.1) (times_at calls place) 0

-- the departure of the timed call before a place, 0 where there is none
abbrev pub left_at : List RowCall → ℕ → ℕ
left_at calls place = option_map_or (departure_at calls) (timed_before calls place) 0

-- the fault at the row of this number: its sequence stood before in its trip
abbrev pub double_sequence : List Fields → ℕ → FeedFault
double_sequence rows number = fault.DoubleId (place_in stop_times_file number (codes "stop_sequence") (sequence_field (row_at rows number)))

-- the fault of a call that has the sequence of the one before it
abbrev pub double_faults : List Fields → RowCall → RowCall → List FeedFault
double_faults rows before call = fault_if (before.sequence == call.sequence) (double_sequence rows call.row)

-- the faults of calls by sequence, each beside the one before it
abbrev pub doubles_of : List Fields → List RowCall → List FeedFault
doubles_of rows calls = flat_map (λ pair. double_faults rows pair.0 pair.1) (zip calls (drop 1 calls))

-- the fault of times that fall at the departure of the row of this number
abbrev pub departure_fall : List Fields → ℕ → FeedFault
departure_fall rows number = fault.TimesFall (place_in stop_times_file number (codes "departure_time") (departure_field (row_at rows number)))

-- the fault of times that fall at the arrival of the row of this number, which is its departure where the field is empty
abbrev pub arrival_fall : List Fields → ℕ → FeedFault
arrival_fall rows number =
    if is_empty (arrival_field (row_at rows number)) then departure_fall rows number
    else fault.TimesFall (place_in stop_times_file number (codes "arrival_time") (arrival_field (row_at rows number)))

-- the faults of a timed call: it arrives before the timed call before it departs, or departs before it arrives
abbrev pub falls_of : List Fields → ℕ → RowCall → Option (ℕ × ℕ) → List FeedFault
falls_of rows left call None = []
falls_of rows left call (Some times) = fault_if (nat_lt times.0 left) (arrival_fall rows call.row) ++ fault_if (nat_lt times.1 times.0) (departure_fall rows call.row)

-- the faults of the timed calls, by sequence
abbrev pub falls_in : List Fields → List RowCall → List FeedFault
falls_in rows calls = flat_map (λ numbered. falls_of rows (left_at calls numbered.0) numbered.1 (times_of numbered.1)) (enumerate_from 0 calls)

-- the faults of a trip: a sequence that stands twice; then, unless it is set aside, times that fall
abbrev pub trip_call_faults : List Fields → List RowCall → List FeedFault
trip_call_faults rows calls =
    doubles_of rows calls
    ++ (if is_aside calls then [] else falls_in rows calls)

-- the time at a place between two timed ones: it goes on from the departure of the first in even steps, rounded down
abbrev pub time_between : List RowCall → ℕ → ℕ → ℕ → ℕ
time_between calls first last place =
    departure_at calls first + (arrival_at calls last - departure_at calls first) * (place - first) / (last - first)

-- the time of an untimed call, between its timed neighbours
abbrev pub spread_time : List RowCall → ℕ → ℕ
spread_time calls place = time_between calls (unwrap_or (timed_before calls place) 0) (unwrap_or (timed_from calls place) 0) place

-- the times of the call at a place
abbrev pub spread_times : List RowCall → ℕ → ℕ × ℕ
spread_times calls place = unwrap_or (times_at calls place) (spread_time calls place, spread_time calls place)

-- a row as a call with these times
abbrev pub call_of : RowCall → ℕ × ℕ → Call
call_of call times = record { stop = unwrap_or call.stop 0; arrival = times.0; departure = times.1; pickup = call.pickup; drop = call.drop }

-- the calls of a trip that is not set aside
abbrev pub calls_of : List RowCall → List Call
calls_of calls = map (λ numbered. call_of numbered.1 (spread_times calls numbered.0)) (enumerate_from 0 calls)
