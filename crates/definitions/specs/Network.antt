-- Networks of nodes and arcs, both known by their numbers.
-- Spiess and Florian 1989, with the wait constant K in place of the factor of the wait. Here: docs/FORMATS.md.
use Rattle.std.specs.Prelude.{ℕ, ◌<◌, ◌≤◌, ◌==◌, Bool, None, List, length, filter, IsTrue, is_some, unwrap_or, slice_index_or}
use Rattle.std.specs.List.{range_with_len}
use Rattle.definitions.specs.declared.arc.NetArc.{NetArc}
use Rattle.definitions.specs.declared.limits.TheConstants.{NODE_LIMIT, ARC_LIMIT, K_LIMIT, COST_LIMIT, WEIGHT_LIMIT}

-- nodes are the numbers below `nodes`, and an arc's number is its place in the list;
-- at combined weight F passengers wait k / F ticks
pub record NetworkData : Type 0 where
  pub nodes : ℕ
  pub arcs : List NetArc
  pub k : ℕ

-- what stands for an arc where there is none
abbrev pub no_arc : NetArc
no_arc = record { tail = 0; head = 0; cost = 0; weight = None }

-- the arc of a number
abbrev pub arc_at : NetworkData → ℕ → NetArc
arc_at net arc = slice_index_or net.arcs arc no_arc

-- the node that an arc leaves
abbrev pub tail_of : NetworkData → ℕ → ℕ
tail_of net arc = (arc_at net arc).tail

-- the node that an arc leads to
abbrev pub head_of : NetworkData → ℕ → ℕ
head_of net arc = (arc_at net arc).head

-- the cost of an arc
abbrev pub cost_of : NetworkData → ℕ → ℕ
cost_of net arc = (arc_at net arc).cost

-- whether passengers wait for the arc; an arc for which they do not is free
abbrev pub is_boarding : NetworkData → ℕ → Bool
is_boarding net arc = is_some (arc_at net arc).weight

-- the weight of a boarding arc, 0 for a free one
abbrev pub weight_of : NetworkData → ℕ → ℕ
weight_of net arc = unwrap_or (arc_at net arc).weight 0

-- the numbers of all nodes
abbrev pub node_numbers : NetworkData → List ℕ
node_numbers net = range_with_len 0 net.nodes

-- the numbers of all arcs
abbrev pub arc_numbers : NetworkData → List ℕ
arc_numbers net = range_with_len 0 (length net.arcs)

-- the arcs that leave a node, in order
abbrev pub out_arcs : NetworkData → ℕ → List ℕ
out_arcs net node = filter (λ arc. tail_of net arc == node) (arc_numbers net)

-- the arcs that lead to a node, in order
abbrev pub in_arcs : NetworkData → ℕ → List ℕ
in_arcs net node = filter (λ arc. head_of net arc == node) (arc_numbers net)

-- the boarding arcs that leave a node, in order
abbrev pub boarding_arcs : NetworkData → ℕ → List ℕ
boarding_arcs net node = filter (is_boarding net) (out_arcs net node)

-- each arc joins two nodes, costs a tick or more, and has a positive weight where it is boarded
pub record IsWellFormed (net : NetworkData) : Type 0 where
  pub tails : (arc : ℕ) → arc < length net.arcs → tail_of net arc < net.nodes
  pub heads : (arc : ℕ) → arc < length net.arcs → head_of net arc < net.nodes
  pub costs : (arc : ℕ) → arc < length net.arcs → 0 < cost_of net arc
  pub weights : (arc : ℕ) → arc < length net.arcs → IsTrue (is_boarding net arc) → 0 < weight_of net arc

-- each number of the network is within its limit
pub record IsWithinLimits (net : NetworkData) : Type 0 where
  pub nodes : net.nodes ≤ NODE_LIMIT
  pub arcs : length net.arcs ≤ ARC_LIMIT
  pub k : net.k ≤ K_LIMIT
  pub costs : (arc : ℕ) → arc < length net.arcs → cost_of net arc ≤ COST_LIMIT
  pub weights : (arc : ℕ) → arc < length net.arcs → weight_of net arc ≤ WEIGHT_LIMIT

-- the arcs are grouped by tail, in the order of the nodes
abbrev pub IsGrouped : NetworkData → Type 0
IsGrouped net = (one later : ℕ) → one ≤ later → later < length net.arcs → tail_of net one ≤ tail_of net later

-- the rules of a network
pub record IsNetwork (net : NetworkData) : Type 0 where
  pub well_formed : IsWellFormed net
  pub within : IsWithinLimits net
  pub grouped : IsGrouped net
