-- What the network of a city is made of. Here: docs/FORMATS.md.
use Rattle.std.specs.Prelude.{◌*◌, ◌/◌, ℕ, List, [], filter, length, max, nat_lt, slice_index_or}
use Rattle.std.specs.List.{range_with_len}
use Rattle.feed_reader.specs.Feed.{FeedData}
use Rattle.headways.specs.declared.line.Line.{Line}
use Rattle.demand.specs.declared.tables.WalkRow.{WalkRow}
use Rattle.demand.specs.Zones.{ZonesData}
use Rattle.scenarios.specs.Scenarios as scenarios
use Rattle.scenarios.specs.Scenarios.{ScenarioData}

-- a feed with its lines, zones and walks, and a scenario
pub record Sources : Type 0 where
  pub feed : FeedData
  pub lines : List Line
  pub zones : ZonesData
  pub walks : List WalkRow
  pub scenario : ScenarioData

-- the sources with these parts
abbrev pub sources_with : FeedData → List Line → ZonesData → List WalkRow → ScenarioData → Sources
sources_with feed lines zones walks scenario = record { feed = feed; lines = lines; zones = zones; walks = walks; scenario = scenario }

-- how many zones there are
abbrev pub zone_count : Sources → ℕ
zone_count sources = length sources.zones.names

-- how many stops there are
abbrev pub stop_count : Sources → ℕ
stop_count sources = length sources.feed.stops

-- what stands for a line where there is none
abbrev pub no_line : Line
no_line = record { route = 0; weight = 0; places = []; rides = []; dwells = [] }

-- the line of a number
abbrev pub line_at : Sources → ℕ → Line
line_at sources number = slice_index_or sources.lines number no_line

-- the weight that a line has in the scenario
abbrev pub weight_in : Sources → ℕ → ℕ
weight_in sources number = scenarios.weight_of sources.scenario (line_at sources number).route (line_at sources number).weight

-- the numbers of the lines that are kept: those that still have weight, in their order
unfoldable pub kept_numbers : Sources → List ℕ
kept_numbers sources = filter (λ number. nat_lt 0 (weight_in sources number)) (range_with_len 0 (length sources.lines))

-- how many lines are kept
abbrev pub kept_count : Sources → ℕ
kept_count sources = length (kept_numbers sources)

-- the line at a place among the kept ones
abbrev pub kept_line : Sources → ℕ → Line
kept_line sources kept = line_at sources (slice_index_or (kept_numbers sources) kept 0)

-- the weight of the line at a place among the kept ones
abbrev pub kept_weight : Sources → ℕ → ℕ
kept_weight sources kept = weight_in sources (slice_index_or (kept_numbers sources) kept 0)

-- the ticks of a walk of so many seconds, at the pace of the scenario, rounded down and at least 1
abbrev pub walk_ticks : Sources → ℕ → ℕ
walk_ticks sources seconds = max 1 (seconds * 1000 * sources.scenario.pace / 100)
