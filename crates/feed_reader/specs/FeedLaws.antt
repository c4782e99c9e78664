-- What holds of each feed: the numbers in its trips, calls and bands name parts of it, and each trip has its calls.
-- Nothing is said of stations, weeks, exceptions and transfers. Here: docs/FORMATS.md.
use Rattle.std.specs.Prelude.{◌≡◌, ◌<◌, ◌≤◌, ◌^◌, List, All, length}
use Rattle.gtfs_rows.specs.declared.timetable.Band.{Band}
use Rattle.feed_reader.specs.declared.timetable.Call.{Call}
use Rattle.feed_reader.specs.declared.timetable.Trip.{Trip}
use Rattle.feed_reader.specs.Feed.{FeedData}
use Rattle.feed_reader.specs.Frequencies.{HEADWAY_LIMIT}
use Rattle.feed_reader.specs.TimesRise.{TimesRise}

-- a trip has a route and a service of the feed
pub record IsTripOf (feed : FeedData) (trip : Trip) : Type 0 where
  pub route : trip.route < length feed.routes
  pub service : trip.service < length feed.services

-- a list of calls at stops of the feed, two at least, along which times do not fall
pub record AreCallsOf (feed : FeedData) (calls : List Call) : Type 0 where
  pub two : 2 ≤ length calls
  pub stops : All (λ call. call.stop < length feed.stops) calls
  pub rising : TimesRise calls

-- a band has a trip of the feed, and a headway within its limits
pub record IsBandOf (feed : FeedData) (band : Band) : Type 0 where
  pub trip : band.trip < length feed.trips
  pub some : 1 ≤ band.headway
  pub most : band.headway ≤ HEADWAY_LIMIT

-- a feed has fewer than 2^32 stops, routes, services and trips, and a list of calls for each trip; its trips, lists of calls and bands keep their laws
pub record IsFeed (feed : FeedData) : Type 0 where
  pub few_stops : length feed.stops < 2 ^ 32
  pub few_routes : length feed.routes < 2 ^ 32
  pub few_services : length feed.services < 2 ^ 32
  pub few_trips : length feed.trips < 2 ^ 32
  pub called : length feed.calls ≡ length feed.trips
  pub trips : All (IsTripOf feed) feed.trips
  pub calls : All (AreCallsOf feed) feed.calls
  pub bands : All (IsBandOf feed) feed.bands
