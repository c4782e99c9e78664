-- The stops of each station.
use Rattle.std.specs.Prelude.{◌≡◌, ◌<◌, ◌+◌, ◌^◌, ℕ, List, [], Option, Some, None, filter, length, slice_index_or}
use Rattle.std.specs.List.{range_with_len}
use Rattle.feed_reader.specs.Feed.{FeedData}
use Rattle.feed_reader.specs.declared.timetable.Stop.{Stop}
use Rattle.network.specs.StopWalks.{is_in}

-- the key of a station, 0 where there is none
abbrev pub key_of : Option ℕ → ℕ
key_of None = 0
key_of (Some station) = station + 1

-- the key of the station of a stop
abbrev pub station_key : Stop → ℕ
station_key stop = key_of stop.parent

-- the stops of a station, in order
abbrev pub stops_of : FeedData → ℕ → List ℕ
stops_of feed station = filter (is_in feed station) (range_with_len 0 (length feed.stops))

-- stops by station, each station behind its number
pub record StandByStation (feed : FeedData) (groups : List (List ℕ)) : Type 0 where
  pub few : length groups < 2 ^ 32
  pub each : (station : ℕ) → slice_index_or groups (station + 1) [] ≡ stops_of feed station
