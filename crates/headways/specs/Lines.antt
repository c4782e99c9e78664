-- The lines of a feed, whose trips have these weights. Here: docs/FORMATS.md.
use Rattle.std.specs.Prelude.{◌==◌, ◌&&◌, ◌+◌, ◌-◌, ◌*◌, ◌/◌, ℕ, Bool, not, List, map, filter, length, max, nat_lt, slice_get, slice_index, sum_by}
use Rattle.std.specs.Bool.{beq}
use Rattle.std.specs.Cmp.Lexicographic.{pointwise}
use Rattle.std.specs.List.{list_any, range_with_len}
use Rattle.std.specs.Option.{option_map_or}
use Rattle.feed_reader.specs.declared.timetable.Call.{Call}
use Rattle.feed_reader.specs.Feed.{FeedData}
use Rattle.headways.specs.declared.line.Line.{Line}
use Rattle.headways.specs.declared.line.LinePlace.{LinePlace}
use Rattle.headways.specs.TripWeights.{arrival_at, calls_of, departure_at, weights_of}
use Rattle.service_period.specs.Periods.{PeriodData}

-- the route of a trip
abbrev pub route_of : FeedData → ℕ → ℕ
route_of feed trip = option_map_or (λ t. t.route) (slice_get feed.trips trip) 0

-- where a call is, and whether passengers may board and alight
abbrev pub place_of : Call → LinePlace
place_of call = record { stop = call.stop; pickup = call.pickup; drop = call.drop }

-- the places of a trip, in order
abbrev pub places_of : FeedData → ℕ → List LinePlace
places_of feed trip = map place_of (calls_of feed trip)

-- whether two places are one
abbrev pub is_same_place : LinePlace → LinePlace → Bool
is_same_place one other = (one.stop == other.stop) && (beq one.pickup other.pickup && beq one.drop other.drop)

-- whether two trips are of one line: they have one route and the same places
abbrev pub is_alike : FeedData → ℕ → ℕ → Bool
is_alike feed one other = (route_of feed one == route_of feed other) && pointwise is_same_place (places_of feed one) (places_of feed other)

-- the counted trips before a number: those of positive weight
unfoldable pub counted_before : List ℕ → ℕ → List ℕ
counted_before weights end = filter (λ trip. nat_lt 0 (slice_index weights trip)) (range_with_len 0 end)

-- whether some counted trip before this one is of its line
abbrev pub is_led : FeedData → List ℕ → ℕ → Bool
is_led feed weights trip = list_any (is_alike feed trip) (counted_before weights trip)

-- the counted trips before a number that no counted trip before them is alike to, in order
unfoldable pub firsts_before : FeedData → List ℕ → ℕ → List ℕ
firsts_before feed weights end = filter (λ trip. not (is_led feed weights trip)) (counted_before weights end)

-- the counted trips
abbrev pub counted : FeedData → List ℕ → List ℕ
counted feed weights = counted_before weights (length feed.trips)

-- the first counted trip of each line
abbrev pub firsts : FeedData → List ℕ → List ℕ
firsts feed weights = firsts_before feed weights (length feed.trips)

-- the trips of a line, by the first of them: all counted trips that are alike
unfoldable pub members : FeedData → List ℕ → ℕ → List ℕ
members feed weights first = filter (is_alike feed first) (counted feed weights)

-- the mean of seconds over trips by their weights, in thousandths of seconds, rounded down, and at least 1
abbrev pub mean_ticks : (ℕ → ℕ) → (ℕ → ℕ) → List ℕ → ℕ
mean_ticks weight seconds trips = max 1 (sum_by (λ trip. weight trip * 1000 * seconds trip) trips / sum_by weight trips)

-- the seconds of a trip from the call at a place to the next
abbrev pub ride_seconds : ℕ → List Call → ℕ
ride_seconds place calls = arrival_at calls (place + 1) - departure_at calls place

-- the seconds of a trip at the call at a place
abbrev pub dwell_seconds : ℕ → List Call → ℕ
dwell_seconds place calls = departure_at calls place - arrival_at calls place

-- the mean ride of trips from a place to the next
abbrev pub ride_of : FeedData → List ℕ → List ℕ → ℕ → ℕ
ride_of feed weights trips place = mean_ticks (slice_index weights) (λ trip. ride_seconds place (calls_of feed trip)) trips

-- the mean dwell of trips at a place
abbrev pub dwell_of : FeedData → List ℕ → List ℕ → ℕ → ℕ
dwell_of feed weights trips place = mean_ticks (slice_index weights) (λ trip. dwell_seconds place (calls_of feed trip)) trips

-- the line of these trips, which are alike to this one
abbrev pub line_of_trips : FeedData → List ℕ → ℕ → List ℕ → Line
line_of_trips feed weights first trips = record {
  route = route_of feed first;
  weight = sum_by (slice_index weights) trips;
  places = places_of feed first;
  rides = map (ride_of feed weights trips) (range_with_len 0 (length (calls_of feed first) - 1));
  dwells = map (dwell_of feed weights trips) (range_with_len 1 (length (calls_of feed first) - 2));
}

-- the line of a first trip
abbrev pub line_of : FeedData → List ℕ → ℕ → Line
line_of feed weights first = line_of_trips feed weights first (members feed weights first)

-- the lines, in the order of their first counted trips
abbrev pub lines_by : FeedData → List ℕ → List Line
lines_by feed weights = map (line_of feed weights) (firsts feed weights)

-- the lines of a feed in a period
abbrev pub lines_of : FeedData → PeriodData → List Line
lines_of feed period = lines_by feed (weights_of feed period)

-- how many trips are counted
abbrev pub count_of : FeedData → PeriodData → ℕ
count_of feed period = length (counted feed (weights_of feed period))

-- what a contract sees of lines: the list of them, and how many trips are counted
pub record LinesData : Type 0 where
  pub lines : List Line
  pub trips : ℕ
