-- Calls of trips that were worked out by hand, which the definitions give.
use Rattle.std.proofs.Common.{◌≡◌, ℕ, [], ◌∷◌, List, Option, Some, None, refl, true, false}
use Rattle.std.specs.Prelude.{codes, slice_get}
use Rattle.feed_reader.specs.declared.fault.FeedFault.TheVariants as fault
use Rattle.feed_reader.specs.declared.row_call.RowCall.{RowCall}
use Rattle.feed_reader.specs.declared.timetable.Call.{Call}
use Rattle.feed_reader.specs.Calls.{calls_of, is_aside, trip_call_faults}
use Rattle.feed_reader.specs.Columns.{stop_times_file}
use Rattle.feed_reader.specs.Faults.{Fields, place_in}
use Rattle.feed_reader.specs.StopTimes.{in_sequence, placed}

-- the row of a number and a sequence, at the stop of that number, with these times
abbrev row : ℕ → ℕ → Option ℕ → Option ℕ → RowCall
row number sequence arrival departure = record { row = number; sequence = sequence; stop = Some number; arrival = arrival; departure = departure; pickup = true; drop = true }

abbrev at_no_stop : ℕ → ℕ → Option ℕ → RowCall
at_no_stop number sequence time = record { row = number; sequence = sequence; stop = None; arrival = time; departure = time; pickup = true; drop = true }

abbrev call : ℕ → ℕ → Call
call stop time = record { stop = stop; arrival = time; departure = time; pickup = true; drop = true }

-- from 07:00:00 to 07:10:01 in three steps: 07:03:20 and 07:06:40 between
spread-over-two : calls_of (row 0 1 (Some 25200) (Some 25200) ∷ row 1 2 None None ∷ row 2 3 None None ∷ row 3 4 (Some 25801) (Some 25801) ∷ [])
    ≡ call 0 25200 ∷ call 1 25400 ∷ call 2 25600 ∷ call 3 25801 ∷ []
spread-over-two = refl

-- a single time stands for both
single-times : calls_of (row 0 1 None (Some 60) ∷ row 1 2 (Some 90) None ∷ []) ≡ call 0 60 ∷ call 1 90 ∷ []
single-times = refl

no-row-is-aside : is_aside [] ≡ true
no-row-is-aside = refl

one-row-is-aside : is_aside (row 0 1 (Some 60) (Some 60) ∷ []) ≡ true
one-row-is-aside = refl

untimed-last-is-aside : is_aside (row 0 1 (Some 60) (Some 60) ∷ row 1 2 None None ∷ []) ≡ true
untimed-last-is-aside = refl

no-stop-is-aside : is_aside (row 0 1 (Some 60) (Some 60) ∷ at_no_stop 1 2 (Some 70) ∷ row 2 3 (Some 80) (Some 80) ∷ []) ≡ true
no-stop-is-aside = refl

untimed-between-is-kept : is_aside (row 0 1 (Some 60) None ∷ row 1 2 None None ∷ row 2 3 None (Some 80) ∷ []) ≡ false
untimed-between-is-kept = refl

-- rows of one sequence stay in file order
by-sequence : in_sequence (row 0 7 None None ∷ row 1 3 None None ∷ row 2 7 None None ∷ row 3 1 None None ∷ [])
    ≡ row 3 1 None None ∷ row 1 3 None None ∷ row 0 7 None None ∷ row 2 7 None None ∷ []
unfolding in_sequence placed
by-sequence = refl

-- three rows of the file: the second has no arrival
abbrev rows : List Fields
rows = (codes "t" ∷ codes "0:00:09" ∷ codes "0:00:09" ∷ codes "a" ∷ codes "1" ∷ [] ∷ [] ∷ [])
    ∷ (codes "t" ∷ [] ∷ codes "0:00:08" ∷ codes "b" ∷ codes "2" ∷ [] ∷ [] ∷ [])
    ∷ (codes "t" ∷ codes "0:00:07" ∷ codes "0:00:06" ∷ codes "c" ∷ codes "02" ∷ [] ∷ [] ∷ []) ∷ []

-- the header is row 1, so the third row behind it is row 4
double-at-the-later-row : slice_get (trip_call_faults rows (row 0 1 (Some 9) (Some 9) ∷ row 1 2 None (Some 8) ∷ row 2 2 (Some 7) (Some 6) ∷ [])) 0
    ≡ Some (fault.DoubleId (place_in stop_times_file 2 (codes "stop_sequence") (codes "02")))
double-at-the-later-row = refl

double-before-it-is-aside : slice_get (trip_call_faults rows (row 1 2 None None ∷ row 2 2 None None ∷ [])) 0
    ≡ Some (fault.DoubleId (record { file = codes "stop_times.txt"; row = 4; column = codes "stop_sequence"; field = codes "02" }))
double-before-it-is-aside = refl

-- an arrival that is empty is named as the departure
falls-without-an-arrival : slice_get (trip_call_faults rows (row 0 1 (Some 9) (Some 9) ∷ row 1 2 None (Some 8) ∷ [])) 0
    ≡ Some (fault.TimesFall (place_in stop_times_file 1 (codes "departure_time") (codes "0:00:08")))
falls-without-an-arrival = refl

-- at one row the arrival before the departure
arrival-falls-first : slice_get (trip_call_faults rows (row 0 1 (Some 9) (Some 9) ∷ row 2 2 (Some 7) (Some 6) ∷ [])) 0
    ≡ Some (fault.TimesFall (place_in stop_times_file 2 (codes "arrival_time") (codes "0:00:07")))
arrival-falls-first = refl

departure-falls : trip_call_faults rows (row 2 2 (Some 7) (Some 6) ∷ row 0 3 (Some 9) (Some 9) ∷ [])
    ≡ fault.TimesFall (place_in stop_times_file 2 (codes "departure_time") (codes "0:00:06")) ∷ []
departure-falls = refl

no-fault-aside : trip_call_faults rows (row 2 2 (Some 7) (Some 6) ∷ row 0 3 None None ∷ []) ≡ []
no-fault-aside = refl

equal-times-do-not-fall : trip_call_faults rows (row 0 1 (Some 9) (Some 9) ∷ row 1 2 (Some 9) (Some 9) ∷ []) ≡ []
equal-times-do-not-fall = refl
