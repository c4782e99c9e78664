-- The routes and stops of a feed, which a scenario knows by their numbers.
use Rattle.std.specs.Prelude.{◌≡◌, ℕ, List, length, map}
use Rattle.feed_reader.specs.Feed.{FeedData}
use Rattle.scenarios.specs.Scenarios.{ScenarioData, route_count, stop_count}

-- the ids of the routes of a feed
abbrev pub route_ids : FeedData → List (List ℕ)
route_ids feed = feed.routes

-- the ids of the stops of a feed
abbrev pub stop_ids : FeedData → List (List ℕ)
stop_ids feed = map (λ stop. stop.id) feed.stops

-- a scenario is about as many routes and stops as a feed has
pub record IsOfFeed (feed : FeedData) (scenario : ScenarioData) : Type 0 where
  pub routes : route_count scenario ≡ length feed.routes
  pub stops : stop_count scenario ≡ length feed.stops
