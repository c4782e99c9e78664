-- Rows of stop_times.txt and the calls of a trip that were worked out by hand, which the definitions give.
use Rattle.std.proofs.Common.{◌≡◌, ℕ, List, [], ◌∷◌, Some, refl, true}
use Rattle.std.specs.Prelude.{codes, slice_get}
use Rattle.feed_reader.specs.declared.fault.FeedFault.TheVariants as fault
use Rattle.feed_reader.specs.Calls.{calls_of, is_aside, trip_call_faults}
use Rattle.feed_reader.specs.Faults.{Fields, bad_field}
use Rattle.feed_reader.specs.StopTimes.{calls_faults, in_sequence, placed, row_calls}

-- the ids of the trips, of all rows of stops.txt, and of its stops; p is a station
abbrev trips : List (List ℕ)
trips = codes "a" ∷ codes "b" ∷ []

abbrev ids : List (List ℕ)
ids = codes "s" ∷ codes "p" ∷ codes "t" ∷ []

abbrev stop_numbers : List (List ℕ)
stop_numbers = codes "s" ∷ codes "t" ∷ []

-- a trip, an arrival, a departure, a stop, a sequence; both may board and alight
abbrev call : List ℕ → List ℕ → List ℕ → List ℕ → List ℕ → Fields
call trip arrival departure stop sequence = trip ∷ arrival ∷ departure ∷ stop ∷ sequence ∷ [] ∷ [] ∷ []

-- an empty stop is no fault, and neither is a row without a time
no-call-fault : calls_faults trips ids (call (codes "a") [] [] [] (codes "1") ∷ call (codes "b") [] (codes "7:00:00") (codes "p") (codes "01") ∷ []) ≡ []
no-call-fault = refl

-- a departure is judged before a stop, a stop before a sequence
bad-departure : slice_get (calls_faults trips ids (call (codes "a") [] (codes "7") (codes "x") (codes "y") ∷ [])) 0
    ≡ Some (bad_field (record { file = codes "stop_times.txt"; row = 2; column = codes "departure_time"; field = codes "7" }))
bad-departure = refl

unknown-stop : slice_get (calls_faults trips ids (call (codes "a") [] [] (codes "x") (codes "y") ∷ [])) 0
    ≡ Some (fault.UnknownId (record { file = codes "stop_times.txt"; row = 2; column = codes "stop_id"; field = codes "x" }))
unknown-stop = refl

-- the calls of a, which stand backwards in the file between those of b: 7:00 at s, then no time twice, then 7:00:10 at s
abbrev rows : List Fields
rows = call (codes "a") (codes "7:00:10") (codes "7:00:20") (codes "s") (codes "9") ∷ call (codes "b") [] [] (codes "s") (codes "1")
    ∷ call (codes "a") [] [] (codes "s") (codes "7") ∷ call (codes "a") [] [] (codes "t") (codes "3") ∷ call (codes "a") [] (codes "7:00:00") (codes "s") (codes "1") ∷ []

-- 10 seconds in three steps: 25200 + 10/3 and + 20/3, rounded down
known-calls : calls_of (row_calls stop_numbers rows (codes "a"))
    ≡ record { stop = 0; arrival = 25200; departure = 25200; pickup = true; drop = true } ∷ record { stop = 1; arrival = 25203; departure = 25203; pickup = true; drop = true }
    ∷ record { stop = 0; arrival = 25206; departure = 25206; pickup = true; drop = true } ∷ record { stop = 0; arrival = 25210; departure = 25220; pickup = true; drop = true } ∷ []
unfolding in_sequence placed
known-calls = refl

no-trip-fault : trip_call_faults rows (row_calls stop_numbers rows (codes "a")) ≡ []
unfolding in_sequence placed
no-trip-fault = refl

-- b has one row alone; a row at a station has no stop
single-row-is-aside : is_aside (row_calls stop_numbers rows (codes "b")) ≡ true
unfolding in_sequence placed
single-row-is-aside = refl

abbrev at_station : List Fields
at_station = call (codes "a") (codes "7:00:00") [] (codes "s") (codes "1") ∷ call (codes "a") (codes "6:00:00") [] (codes "p") (codes "2") ∷ []

-- set aside, so the time that falls is no fault
station-is-aside : trip_call_faults at_station (row_calls stop_numbers at_station (codes "a")) ≡ []
unfolding in_sequence placed
station-is-aside = refl

-- a sequence of two numbers alike, 2 and 02, is told at the later row, also of a trip that would be set aside; the least sequence comes first
abbrev doubled : List Fields
doubled = call (codes "a") [] [] [] (codes "5") ∷ call (codes "a") [] [] [] (codes "2") ∷ call (codes "a") [] [] [] (codes "5") ∷ call (codes "a") [] [] [] (codes "02") ∷ []

double-sequence : slice_get (trip_call_faults doubled (row_calls stop_numbers doubled (codes "a"))) 0
    ≡ Some (fault.DoubleId (record { file = codes "stop_times.txt"; row = 5; column = codes "stop_sequence"; field = codes "02" }))
unfolding in_sequence placed
double-sequence = refl

-- at the second row both rules fail: its arrival is before 7:00:05, and its departure before its arrival
abbrev falling : List ℕ → List Fields
falling arrival = call (codes "a") (codes "7:00:00") (codes "7:00:05") (codes "s") (codes "1") ∷ call (codes "a") arrival (codes "7:00:01") (codes "s") (codes "2") ∷ []

falls-to-arrival : slice_get (trip_call_faults (falling (codes "7:00:03")) (row_calls stop_numbers (falling (codes "7:00:03")) (codes "a"))) 0
    ≡ Some (fault.TimesFall (record { file = codes "stop_times.txt"; row = 3; column = codes "arrival_time"; field = codes "7:00:03" }))
unfolding in_sequence placed
falls-to-arrival = refl

falls-within : trip_call_faults (falling (codes "7:00:05")) (row_calls stop_numbers (falling (codes "7:00:05")) (codes "a"))
    ≡ fault.TimesFall (record { file = codes "stop_times.txt"; row = 3; column = codes "departure_time"; field = codes "7:00:01" }) ∷ []
unfolding in_sequence placed
falls-within = refl

-- a single time stands for both, and is told in its own column
falls-to-single : trip_call_faults (falling []) (row_calls stop_numbers (falling []) (codes "a"))
    ≡ fault.TimesFall (record { file = codes "stop_times.txt"; row = 3; column = codes "departure_time"; field = codes "7:00:01" }) ∷ []
unfolding in_sequence placed
falls-to-single = refl
