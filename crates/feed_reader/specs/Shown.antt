-- What a contract sees of the parts of a feed.
use Rattle.std.specs.Prelude.{ℕ, List}
use Rattle.gtfs_rows.specs.declared.timetable.Band.{Band}
use Rattle.gtfs_rows.specs.declared.timetable.Week.{Week}
use Rattle.gtfs_rows.specs.declared.timetable.Exception.{Exception}
use Rattle.feed_reader.specs.declared.timetable.Aside.{Aside}
use Rattle.feed_reader.specs.declared.timetable.Call.{Call}
use Rattle.feed_reader.specs.declared.timetable.Stop.{Stop}
use Rattle.feed_reader.specs.declared.timetable.Transfer.{Transfer}
use Rattle.feed_reader.specs.declared.timetable.Trip.{Trip}
use Rattle.feed_reader.specs.Feed.{FeedData}

-- the feed of these lists
abbrev pub feed_with : List Stop → List (List ℕ) → List (List ℕ) → List Trip → List (List Call) → List Band → List Week → List Exception
    → List Transfer → Aside → FeedData
feed_with stops routes services trips calls bands weeks exceptions transfers aside = record {
  stops = stops;
  routes = routes;
  services = services;
  trips = trips;
  calls = calls;
  bands = bands;
  weeks = weeks;
  exceptions = exceptions;
  transfers = transfers;
  aside = aside;
}

-- how many trips and transfers were set aside
abbrev pub aside_of : ℕ → ℕ → Aside
aside_of trips transfers = record { trips = trips; transfers = transfers }
