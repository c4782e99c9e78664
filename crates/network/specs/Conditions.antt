-- What the parts of a city have to keep for its network to be built: their numbers name parts of the feed.
use Rattle.std.specs.Prelude.{◌≤◌, All}
use Rattle.demand.specs.Laws.{IsLinkAmong, IsWalkAmong}
use Rattle.headways.specs.Laws.{IsLineOf}
use Rattle.network.specs.Sources.{Sources, stop_count, zone_count}
use Rattle.scenarios.specs.Feeds.{IsOfFeed}
use Rattle.demand.specs.declared.limits.TheConstants.{ZONE_LIMIT}

-- lines that keep the laws of lines, few zones, links and walks at zones and stops that there are, and a scenario of the feed
pub record AreSources (sources : Sources) : Type 0 where
  pub lines : All (IsLineOf sources.feed) sources.lines
  pub zones : zone_count sources ≤ ZONE_LIMIT
  pub links : All (IsLinkAmong (zone_count sources) (stop_count sources)) sources.zones.links
  pub walks : All (IsWalkAmong (stop_count sources)) sources.walks
  pub scenario : IsOfFeed sources.feed sources.scenario
