-- A fault of the calls of a trip as one of the feed, whose places want the rows of stop_times.txt.
use Rattle.std.specs.Prelude.{◌≡◌, ◌⊎◌, List, [], Option, Some, None, option_map, slice_get, if◌then◌else◌}
use Rattle.feed_reader.specs.declared.call_fault.CallFault.{CallFault}
use Rattle.feed_reader.specs.declared.call_fault.CallFault.TheVariants as found
use Rattle.feed_reader.specs.declared.fault.FeedFault.{FeedFault}
use Rattle.feed_reader.specs.declared.fault.FeedFault.TheVariants as fault
use Rattle.feed_reader.specs.declared.row_call.RowCall.{RowCall}
use Rattle.feed_reader.specs.declared.timetable.Call.{Call}
use Rattle.feed_reader.specs.Calls.{arrival_fall, calls_of, departure_fall, double_sequence, is_aside}
use Rattle.feed_reader.specs.Faults.{Fields}

-- a fault of calls as one of the feed, where these are the rows of stop_times.txt
abbrev pub shown_fault : List Fields → CallFault → FeedFault
shown_fault rows (found.Double number) = double_sequence rows number
shown_fault rows (found.ArrivalFalls number) = arrival_fall rows number
shown_fault rows (found.DepartureFalls number) = departure_fall rows number
shown_fault rows found.NoMemory = fault.NoMemory

-- whatever the rows are, what was found is the first of the faults that they give, and None where they give none
abbrev pub Finds : (List Fields → List FeedFault) → Option CallFault → Type 0
Finds faults answer = (rows : List Fields) → slice_get (faults rows) 0 ≡ option_map (shown_fault rows) answer

-- whatever the rows are, the answer is the first of the faults that they give; want of memory may come in its place
abbrev pub IsFirstCallFault : (List Fields → List FeedFault) → CallFault → Type 0
IsFirstCallFault faults answer = (answer ≡ found.NoMemory) ⊎ ((rows : List Fields) → slice_get (faults rows) 0 ≡ Some (shown_fault rows answer))

-- whatever the rows are, they give no fault
abbrev pub HasNoCallFault : (List Fields → List FeedFault) → Type 0
HasNoCallFault faults = (rows : List Fields) → faults rows ≡ []

-- the calls of a trip, None where it is set aside
abbrev pub kept_calls : List RowCall → Option (List Call)
kept_calls calls = if is_aside calls then None else Some (calls_of calls)
