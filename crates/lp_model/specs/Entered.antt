-- The arcs into a node, as it looks at them.
use Rattle.std.specs.Prelude.{◌≡◌, ℕ, ◌+◌, ◌<◌, List, length, map, unwrap_or, nat_lt, slice_index_or}
use Rattle.definitions.specs.declared.arc.NetArc.{NetArc}
use Rattle.definitions.specs.Network.{NetworkData, no_arc, tail_of, cost_of, weight_of, is_boarding}
use Rattle.lp_model.specs.declared.entering.Entering.{Entering}
use Rattle.lp_model.specs.declared.grouping.End.TheVariants.{Head}
use Rattle.lp_model.specs.Grouping.{AreGrouped}

-- an arc of this number, as the node that it enters looks at it
abbrev pub entering_as : ℕ → NetArc → Entering
entering_as arc entry = record { tail = entry.tail; cost = entry.cost; weight = unwrap_or entry.weight 0; arc = arc }

-- the arc of a number, as the node that it enters looks at it
abbrev pub entering_in : List NetArc → ℕ → Entering
entering_in arcs arc = entering_as arc (slice_index_or arcs arc no_arc)

-- tail, cost, weight and number of an arc of the network
pub record IsEntering (net : NetworkData) (entering : Entering) : Type 0 where
  pub there : entering.arc < length net.arcs
  pub tail : entering.tail ≡ tail_of net entering.arc
  pub cost : entering.cost ≡ cost_of net entering.arc
  pub weight : entering.weight ≡ weight_of net entering.arc
  pub boards : is_boarding net entering.arc ≡ nat_lt 0 entering.weight
  pub inside : entering.tail < net.nodes

-- the arcs grouped by head
pub record AreEntering (net : NetworkData) (entering : List Entering) : Type 0 where
  pub numbers : List ℕ
  pub number_each : length numbers ≡ length net.arcs
  pub grouped : AreGrouped Head net.arcs (net.nodes + 1) numbers
  pub same : entering ≡ map (entering_in net.arcs) numbers
