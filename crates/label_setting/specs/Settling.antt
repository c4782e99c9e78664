-- The state in which labels are settled: what holds of it between two steps, and what a step changes.
use Rattle.std.specs.Prelude.{◌≡◌, ◌≢◌, ℕ, ◌+◌, ◌<◌, Bool, true, List, length, take, Option, unwrap_or, slice_index, if◌then◌else◌}
use Rattle.definitions.specs.Network.{NetworkData}
use Rattle.definitions.specs.Reach.{is_reached}
use Rattle.label_setting.specs.declared.settling.Settling.{Settling}
use Rattle.label_setting.specs.declared.settling.TheConstants.{UNBOUNDED}
use Rattle.label_setting.specs.Queue.{queued}
use Rattle.label_setting.specs.Partway.{Partway, Sums, Room, Ordered, all_seen, seen_to}

-- the label of a node
abbrev pub label_in : Settling → ℕ → ℕ
label_in state node = slice_index state.labels.items node

-- whether a node is settled
abbrev pub mark_in : Settling → ℕ → Bool
mark_in state node = is_reached state.reached.items node

-- the number of an item in the queue
abbrev pub number_in : Settling → ℕ → Option ℕ
number_in state item = queued state.queue item

-- the combined weight of the arcs that joined at a node
abbrev pub weight_in : Settling → ℕ → ℕ
weight_in state node = slice_index state.weights.items node

-- the sum of their weights, each times what the arc leads to
abbrev pub total_in : Settling → ℕ → ℕ
total_in state node = slice_index state.totals.items node

-- the settled nodes in order
abbrev pub order_in : Settling → List ℕ
order_in state = take state.settled state.order.items

-- room for a network
pub record IsMadeFor (net : NetworkData) (state : Settling) : Type 0 where
  pub labels : length state.labels.items ≡ net.nodes
  pub reached : length state.reached.items ≡ net.nodes
  pub order : length state.order.items ≡ net.nodes
  pub weights : length state.weights.items ≡ net.nodes
  pub totals : length state.totals.items ≡ net.nodes
  pub bounds : length state.bounds.items ≡ net.nodes
  pub queue : length state.queue ≡ length net.arcs + net.nodes

-- what a node is bounded by: 0 once it is settled, before that its number, and past all numbers where it has none
abbrev pub node_bound : Bool → Option ℕ → ℕ
node_bound settled number = if settled then 0 else unwrap_or number UNBOUNDED

-- each node is bounded so
pub record AreBounds (net : NetworkData) (marks : List Bool) (queue : List (Option ℕ)) (bounds : List ℕ) : Type 0 where
  pub each : (node : ℕ) → node < net.nodes → slice_index bounds node ≡ node_bound (is_reached marks node) (queued queue (length net.arcs + node))

-- each node but one is bounded so
pub record AreBoundsBut (net : NetworkData) (one : ℕ) (marks : List Bool) (queue : List (Option ℕ)) (bounds : List ℕ) : Type 0 where
  pub others : (node : ℕ) → node < net.nodes → node ≢ one → slice_index bounds node ≡ node_bound (is_reached marks node) (queued queue (length net.arcs + node))

-- each node of a state is bounded so
abbrev pub IsBounded : NetworkData → Settling → Type 0
IsBounded net state = AreBounds net state.reached.items state.queue state.bounds.items

-- each node of a state but one is bounded so
abbrev pub IsBoundedBut : NetworkData → ℕ → Settling → Type 0
IsBoundedBut net one state = AreBoundsBut net one state.reached.items state.queue state.bounds.items

-- what holds of labels, marks, order, their count, weights, totals and queue, where these arcs into settled nodes were seen and these joined
pub record Stands (net : NetworkData) (destination : ℕ) (seen joins : ℕ → Bool) (level last : ℕ)
    (labels : List ℕ) (marks : List Bool) (order : List ℕ) (count : ℕ) (weights totals : List ℕ) (queue : List (Option ℕ)) : Type 0 where
  pub partway : Partway net destination (λ node. slice_index labels node) (is_reached marks) seen joins (queued queue) level last
  pub sums : Sums net (λ node. slice_index labels node) (is_reached marks) joins (λ node. slice_index weights node) (λ node. slice_index totals node)
  pub room : Room net (λ node. slice_index labels node) (is_reached marks) (queued queue) count
  pub ordered : Ordered net.nodes (λ node. slice_index labels node) (is_reached marks) order
  pub labels_long : length labels ≡ net.nodes
  pub marks_long : length marks ≡ net.nodes
  pub weights_long : length weights ≡ net.nodes
  pub totals_long : length totals ≡ net.nodes
  pub queue_long : length queue ≡ length net.arcs + net.nodes

-- the same of a state
abbrev pub StandsIn : NetworkData → ℕ → (ℕ → Bool) → (ℕ → Bool) → ℕ → ℕ → Settling → Type 0
StandsIn net destination seen joins level last state =
    Stands net destination seen joins level last state.labels.items state.reached.items (order_in state) state.settled state.weights.items state.totals.items state.queue

-- between two steps all arcs into settled nodes were seen
abbrev pub Settles : NetworkData → ℕ → Settling → Type 0
Settles net destination state =
    (joins : ℕ → Bool) × (level : ℕ) × (last : ℕ) × StandsIn net destination (all_seen net (mark_in state)) joins level last state

-- a node was settled with this label, and the arcs into it were seen up to a number
pub record Spreads (net : NetworkData) (destination node label end : ℕ) (joins : ℕ → Bool) (last : ℕ) (state : Settling) : Type 0 where
  pub there : node < net.nodes
  pub marked : mark_in state node ≡ true
  pub labelled : label_in state node ≡ label
  pub stands : StandsIn net destination (seen_to net (mark_in state) node end) joins label last state

-- a node was settled with this label last, and none of the arcs into it was seen
abbrev pub IsToSpread : NetworkData → ℕ → ℕ → ℕ → Settling → Type 0
IsToSpread net destination node label state = (joins : ℕ → Bool) × (last : ℕ) × Spreads net destination node label 0 joins last state
