-- Values of the definitions that were worked out by hand.
use Rattle.std.proofs.Common.{◌≡◌, ℕ, [], ◌∷◌, List, Some, None, true, false, refl, pos}
use Rattle.gtfs_rows.specs.declared.timetable.Band.{Band}
use Rattle.feed_reader.specs.declared.timetable.Call.{Call}
use Rattle.feed_reader.specs.declared.timetable.Trip.{Trip}
use Rattle.feed_reader.specs.Feed.{FeedData}
use Rattle.headways.specs.declared.line.Line.{Line}
use Rattle.headways.specs.declared.line.LinePlace.{LinePlace}
use Rattle.headways.specs.declared.fault.Limit.TheVariants as limit
use Rattle.headways.specs.declared.fault.LineFault.TheVariants as fault
use Rattle.headways.specs.Faults.{line_faults}
use Rattle.headways.specs.Lines.{counted_before, firsts, firsts_before, is_same_place, line_of_trips, lines_by, members}
use Rattle.headways.specs.TripWeights.{bands_of, weight_of_bands}
use Rattle.service_period.specs.Periods.{PeriodData}
use Rattle.service_period.specs.Weights.{shared_seconds}

-- a call in seconds, where passengers may board and alight
at : ℕ → ℕ → ℕ → Call
at stop arrival departure = record { stop = stop; arrival = arrival; departure = departure; pickup = true; drop = true }

place : ℕ → LinePlace
place stop = record { stop = stop; pickup = true; drop = true }

trip : ℕ → Trip
trip route = record { id = []; route = route; service = 0 }

-- four trips: the first three of one route and pattern, the last of another route with no ride longer than a second
calls : List (List Call)
calls = (at 0 0 10 ∷ at 1 110 110 ∷ []) ∷ (at 0 0 0 ∷ at 1 101 101 ∷ []) ∷ (at 0 0 0 ∷ at 1 500 500 ∷ []) ∷ (at 1 0 0 ∷ at 0 0 0 ∷ at 2 1 1 ∷ []) ∷ []

feed : FeedData
feed = record {
  stops = [];
  routes = [];
  services = [];
  trips = trip 0 ∷ trip 0 ∷ trip 0 ∷ trip 1 ∷ [];
  calls = calls;
  bands = [];
  weeks = [];
  exceptions = [];
  transfers = [];
  aside = record { trips = 0; transfers = 0 };
}

places-three : List LinePlace
places-three = place 1 ∷ place 0 ∷ place 2 ∷ []

-- the third weighs nothing; (1000 * 1000 * 100 + 3000 * 1000 * 101) / 4000 is 100750
two-lines : lines_by feed (1000 ∷ 3000 ∷ 0 ∷ 500 ∷ [])
    ≡ record { route = 0; weight = 4000; places = place 0 ∷ place 1 ∷ []; rides = 100750 ∷ []; dwells = [] }
    ∷ record { route = 1; weight = 500; places = places-three; rides = 1 ∷ 1000 ∷ []; dwells = 1 ∷ [] } ∷ []
unfolding feed calls at trip place places-three members firsts_before counted_before
two-lines = refl

-- of the rows of a trip at 7:00:00, 7:03:20, 7:06:40 and 7:10:01
timed : List Call
timed = at 0 25200 25200 ∷ at 1 25400 25400 ∷ at 2 25600 25600 ∷ at 3 25801 25801 ∷ []

even-steps : (line_of_trips (record feed { calls = timed ∷ [] }) (2000 ∷ []) 0 (0 ∷ [])).rides ≡ 200000 ∷ 200000 ∷ 201000 ∷ []
unfolding feed calls at trip timed
even-steps = refl

short-stops : (line_of_trips (record feed { calls = timed ∷ [] }) (2000 ∷ []) 0 (0 ∷ [])).dwells ≡ 1 ∷ 1 ∷ []
unfolding feed calls at trip timed
short-stops = refl

-- a stop where nobody may board is another place
other-place : (is_same_place (place 3) (place 3) ≡ true) × (is_same_place (place 3) (record { stop = 3; pickup = false; drop = true }) ≡ false) × (is_same_place (place 3) (record { stop = 3; pickup = true; drop = false }) ≡ false)
unfolding place
other-place = (refl, refl, refl)

-- the line of the route of a greater number stands first where its trip does
by-first-trip : firsts (record feed { trips = trip 1 ∷ trip 0 ∷ trip 1 ∷ []; calls = timed ∷ timed ∷ timed ∷ [] }) (5 ∷ 5 ∷ 5 ∷ []) ≡ 0 ∷ 1 ∷ []
unfolding feed calls at trip timed firsts_before counted_before
by-first-trip = refl

-- the first of the faults of a line
past-limits : line_faults (record { route = 0; weight = 4294967296; places = []; rides = 5 ∷ 1000000001 ∷ []; dwells = 1000000002 ∷ [] })
    ≡ fault.Range limit.Weight 4294967296 ∷ fault.Range limit.Cost 1000000001 ∷ fault.Range limit.Cost 1000000002 ∷ []
past-limits = refl

pub at-limits : line_faults (record { route = 0; weight = 4294967295; places = []; rides = 1000000000 ∷ []; dwells = 1000000000 ∷ [] }) ≡ []
at-limits = refl

-- a trip with bands weighs the sum of them, and not by its first departure too
ten : PeriodData
ten = record { date = (pos 2025, 6, 2); from = 10; to = 20 }

every : ℕ → Band
every headway = record { trip = 1; begins = 0; ends = 100; headway = headway; exact = false }

of-bands : (weight_of_bands ten [] ≡ None) × (weight_of_bands ten (bands_of (every 5 ∷ every 10 ∷ []) 1) ≡ Some 3000) × (weight_of_bands ten (bands_of (every 5 ∷ []) 0) ≡ None)
unfolding ten every shared_seconds
of-bands = (refl, refl, refl)
