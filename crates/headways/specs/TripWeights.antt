-- What the trips of a feed weigh in a period. Here: docs/FORMATS.md.
use Rattle.std.specs.Prelude.{◌≡◌, ◌==◌, ◌<◌, ◌≤◌, ◌^◌, ℕ, Bool, false, List, [], ◌∷◌, Option, Some, None, All, map, filter, length, unwrap_or, if◌then◌else◌, slice_get, slice_index_or, sum_by}
use Rattle.std.specs.List.{range_with_len}
use Rattle.std.specs.Option.{option_map_or}
use Rattle.gtfs_rows.specs.declared.timetable.Band.{Band}
use Rattle.feed_reader.specs.declared.timetable.Call.{Call}
use Rattle.feed_reader.specs.Feed.{FeedData}
use Rattle.service_period.specs.Periods.{PeriodData}
use Rattle.service_period.specs.Services.{runs_on}
use Rattle.service_period.specs.Weights.{band_weight_of, trip_weight_of}

-- the calls of a trip
abbrev pub calls_of : FeedData → ℕ → List Call
calls_of feed trip = slice_index_or feed.calls trip []

-- the second at which a trip arrives at the call at a place, 0 where there is none
abbrev pub arrival_at : List Call → ℕ → ℕ
arrival_at calls place = option_map_or (λ call. call.arrival) (slice_get calls place) 0

-- the second at which a trip departs from the call at a place, 0 where there is none
abbrev pub departure_at : List Call → ℕ → ℕ
departure_at calls place = option_map_or (λ call. call.departure) (slice_get calls place) 0

-- the bands of a trip
abbrev pub bands_of : List Band → ℕ → List Band
bands_of bands trip = filter (λ band. band.trip == trip) bands

-- the weight of bands, where there are some: the sum of theirs
abbrev pub weight_of_bands : PeriodData → List Band → Option ℕ
weight_of_bands period [] = None
weight_of_bands period (band ∷ bands) = Some (sum_by (band_weight_of period) (band ∷ bands))

-- the weights of the bands of so many trips
abbrev pub weights_of_bands : PeriodData → List Band → ℕ → List (Option ℕ)
weights_of_bands period bands trips = map (λ trip. weight_of_bands period (bands_of bands trip)) (range_with_len 0 trips)

-- the weight of a trip in such a list, 0 where it has no bands
abbrev pub weight_in : List (Option ℕ) → ℕ → ℕ
weight_in weights trip = unwrap_or (slice_index_or weights trip None) 0

-- whether a service of a feed runs on the date
abbrev pub is_on : FeedData → PeriodData → ℕ → Bool
is_on feed period service = runs_on feed.weeks feed.exceptions service period.date

-- whether the service of a trip runs on the date
abbrev pub is_running : FeedData → PeriodData → ℕ → Bool
is_running feed period trip = option_map_or (λ t. is_on feed period t.service) (slice_get feed.trips trip) false

-- the weight of a running trip: that of its bands, where it has some, or else by its first departure
abbrev pub running_weight : FeedData → PeriodData → ℕ → Option ℕ → ℕ
running_weight feed period trip of_bands = unwrap_or of_bands (trip_weight_of period (departure_at (calls_of feed trip) 0))

-- the weight of a trip; one that does not run weighs nothing
abbrev pub weight_of : FeedData → PeriodData → ℕ → ℕ
weight_of feed period trip = if is_running feed period trip then running_weight feed period trip (weight_of_bands period (bands_of feed.bands trip)) else 0

-- the weights of all trips, in the order of the trips
abbrev pub weights_of : FeedData → PeriodData → List ℕ
weights_of feed period = map (weight_of feed period) (range_with_len 0 (length feed.trips))

-- a weight for each trip of a feed, none of them as large as this; the feed has fewer than 2 ^ 32 trips
pub record AreLight (feed : FeedData) (weights : List ℕ) : Type 0 where
  pub weight_per_trip : length weights ≡ length feed.trips
  pub few : length feed.trips < 2 ^ 32
  pub light : All (λ weight. weight < 2 ^ 92) weights

-- bands of so many trips, each with a headway
abbrev pub AreBands : ℕ → List Band → Type 0
AreBands trips bands = All (λ band. (band.trip < trips) × (1 ≤ band.headway)) bands
