-- Which nodes an arc of each kind joins. Here: docs/FORMATS.md.
use Rattle.std.specs.Prelude.{◌≡◌, ◌+◌, ℕ}
use Rattle.network.specs.declared.kinds.ArcKind.{ArcKind}
use Rattle.network.specs.declared.kinds.ArcKind.TheVariants as arc
use Rattle.network.specs.declared.kinds.NodeKind.{NodeKind}
use Rattle.network.specs.declared.kinds.NodeKind.TheVariants as node
use Rattle.network.specs.Arcs.{boarding_in, node_in}
use Rattle.scenarios.specs.declared.layer.Layer.{Layer}

-- an arc of a kind leads from a node that stands for one thing to a node that stands for another:
-- between zones and stops on foot, between stops of one layer on foot, from a stop on board as a line leaves a place, along the line,
-- and off board at a stop, where only a later boarding follows
pub data Joins (kind : ArcKind) (from to : NodeKind) : Type 0 where
  accesses : (zone stop : ℕ) → kind ≡ arc.Access → from ≡ node.Origin zone → to ≡ node.First stop → Joins kind from to
  egresses : (layer : Layer) (stop zone : ℕ) → kind ≡ arc.Egress → from ≡ node_in layer stop → to ≡ node.Goal zone → Joins kind from to
  walks : (layer : Layer) (one other : ℕ) → kind ≡ arc.Walk → from ≡ node_in layer one → to ≡ node_in layer other → Joins kind from to
  boards : (layer : Layer) (stop line place : ℕ) → kind ≡ boarding_in layer → from ≡ node_in layer stop → to ≡ node.Leave line place → Joins kind from to
  rides : (line place : ℕ) → kind ≡ arc.Ride → from ≡ node.Leave line place → to ≡ node.Reach line (place + 1) → Joins kind from to
  dwells : (line place : ℕ) → kind ≡ arc.Dwell → from ≡ node.Reach line (place + 1) → to ≡ node.Leave line (place + 1) → Joins kind from to
  alights : (line place stop : ℕ) → kind ≡ arc.Alight → from ≡ node.Reach line (place + 1) → to ≡ node.Later stop → Joins kind from to
