-- The parts of a trip whose means make a line.
use Rattle.std.specs.Prelude.{◌-◌, ◌<◌, ◌≡◌, ℕ, List, All, length, map, slice_index}
use Rattle.std.specs.List.{range_with_len}
use Rattle.feed_reader.specs.declared.timetable.Call.{Call}
use Rattle.feed_reader.specs.Feed.{FeedData}
use Rattle.headways.specs.declared.means.Part.{Part}
use Rattle.headways.specs.declared.means.Part.TheVariants.{Ride, Dwell}
use Rattle.headways.specs.Lines.{dwell_seconds, mean_ticks, ride_seconds}
use Rattle.headways.specs.TripWeights.{calls_of}

-- the seconds of a part of a trip at a place
abbrev pub seconds_of : Part → ℕ → List Call → ℕ
seconds_of Ride place calls = ride_seconds place calls
seconds_of Dwell place calls = dwell_seconds place calls

-- the first place that has the part: no dwell is counted at the first call
abbrev pub begin_of : Part → ℕ
begin_of Ride = 0
begin_of Dwell = 1

-- the mean of a part over trips at a place
abbrev pub mean_of : FeedData → List ℕ → List ℕ → Part → ℕ → ℕ
mean_of feed weights trips part place = mean_ticks (slice_index weights) (λ trip. seconds_of part place (calls_of feed trip)) trips

-- the means of a part over trips at the places before an end
abbrev pub means_of : FeedData → List ℕ → List ℕ → Part → ℕ → List ℕ
means_of feed weights trips part end = map (mean_of feed weights trips part) (range_with_len (begin_of part) (end - begin_of part))

-- trips of a feed
abbrev pub AreTrips : FeedData → List ℕ → Type 0
AreTrips feed trips = All (λ trip. trip < length feed.trips) trips
