-- What the arcs of a city are made of, and the nodes that it has.
use Rattle.std.specs.Prelude.{◌≡◌, ◌<◌, ◌≤◌, ◌+◌, ℕ, List, length}
use Rattle.definitions.specs.declared.limits.TheConstants.{NODE_LIMIT}
use Rattle.demand.specs.declared.tables.WalkRow.{WalkRow}
use Rattle.network.specs.declared.kinds.KeptLine.{KeptLine}
use Rattle.network.specs.declared.kinds.NodeKind.{NodeKind}
use Rattle.network.specs.declared.kinds.NodeKind.TheVariants as node
use Rattle.network.specs.Conditions.{AreSources}
use Rattle.network.specs.Nodes.{kept_lines, nodes_of}
use Rattle.network.specs.Sources.{Sources, kept_count, kept_line, stop_count, zone_count}
use Rattle.network.specs.StopWalks.{walks_by_stop}

-- sources of few nodes, with their kept lines and the walks from each stop
pub record IsTown (sources : Sources) (kept : List KeptLine) (walks : List (List WalkRow)) : Type 0 where
  pub lawful : AreSources sources
  pub few : length (nodes_of sources) ≤ NODE_LIMIT
  pub kept_are : kept ≡ kept_lines sources
  pub walks_are : walks ≡ walks_by_stop sources.feed sources.walks

-- a place of a kept line, by its number
pub record HasPlace (sources : Sources) (line place : ℕ) : Type 0 where
  pub kept : line < kept_count sources
  pub within : place < length (kept_line sources line).places

-- a segment of a kept line from a place to the next
pub record HasSegment (sources : Sources) (line place : ℕ) : Type 0 where
  pub kept : line < kept_count sources
  pub next : place + 1 < length (kept_line sources line).places

-- a place of a kept line that it reaches
pub record HasReach (sources : Sources) (line place : ℕ) : Type 0 where
  pub kept : line < kept_count sources
  pub later : 0 < place
  pub within : place < length (kept_line sources line).places

-- there is a node for this
abbrev pub HasNode : Sources → NodeKind → Type 0
HasNode sources (node.Origin zone) = zone < zone_count sources
HasNode sources (node.Goal zone) = zone < zone_count sources
HasNode sources (node.First stop) = stop < stop_count sources
HasNode sources (node.Later stop) = stop < stop_count sources
HasNode sources (node.Leave line place) = HasSegment sources line place
HasNode sources (node.Reach line place) = HasReach sources line place
