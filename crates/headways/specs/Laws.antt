-- What holds of each line of a feed. Here: docs/FORMATS.md.
use Rattle.std.specs.Prelude.{◌≡◌, ◌<◌, ◌≤◌, ◌+◌, ℕ, List, All, length}
use Rattle.definitions.specs.declared.limits.TheConstants.{COST_LIMIT, WEIGHT_LIMIT}
use Rattle.feed_reader.specs.Feed.{FeedData}
use Rattle.headways.specs.declared.line.Line.{Line}

-- a time of at least one tick, and within the limit
abbrev pub IsCost : ℕ → Type 0
IsCost ticks = (1 ≤ ticks) × (ticks ≤ COST_LIMIT)

-- a line has a route and stops of the feed, two places at least, a ride from each place to the next, and a dwell between two rides
pub record IsLineOf (feed : FeedData) (line : Line) : Type 0 where
  pub route : line.route < length feed.routes
  pub stops : All (λ place. place.stop < length feed.stops) line.places
  pub two : 2 ≤ length line.places
  pub some : 1 ≤ line.weight
  pub most : line.weight ≤ WEIGHT_LIMIT
  pub ride_per_pair : length line.rides + 1 ≡ length line.places
  pub dwell_per_stop : length line.dwells + 2 ≡ length line.places
  pub rides : All IsCost line.rides
  pub dwells : All IsCost line.dwells
