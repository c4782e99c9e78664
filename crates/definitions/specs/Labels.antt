-- The labels of a destination: expected times to it in whole ticks, rounded down, as the solution of equations.
-- After Spiess and Florian 1989. Here: docs/FORMATS.md. Marks tell which nodes reach the destination: those of IsReach.
use Rattle.std.specs.Prelude.{◌≡◌, ◌≢◌, ℕ, ◌<◌, ◌≤◌, ◌⊎◌, Bool, List, length, filter, IsTrue, IsFalse, slice_index}
use Rattle.definitions.specs.Network.{NetworkData, tail_of, head_of, is_boarding, boarding_arcs}
use Rattle.definitions.specs.Dual.{time_through, weighted_savings}
use Rattle.definitions.specs.Reach.{is_reached}

-- the boarding arcs that leave a node and lead to nodes that reach
abbrev pub reaching_boardings : NetworkData → List Bool → ℕ → List ℕ
reaching_boardings net reached node = filter (λ arc. is_reached reached (head_of net arc)) (boarding_arcs net node)

-- the arcs that leave the node and lead to nodes that reach permit this label: it is no higher than what each free one leads to,
-- and what the boarding arcs save against it, each times its weight, is at most k
pub record Permits (net : NetworkData) (reached : List Bool) (labels : List ℕ) (node label : ℕ) : Type 0 where
  pub free : (arc : ℕ) → arc < length net.arcs → tail_of net arc ≡ node → IsTrue (is_reached reached (head_of net arc)) →
      IsFalse (is_boarding net arc) → label ≤ time_through net labels arc
  pub boarding : weighted_savings net labels (reaching_boardings net reached node) label ≤ net.k

-- the label of a node is the greatest that its arcs permit
pub record IsGreatest (net : NetworkData) (reached : List Bool) (labels : List ℕ) (node : ℕ) : Type 0 where
  pub permitted : Permits net reached labels node (slice_index labels node)
  pub greatest : (label : ℕ) → Permits net reached labels node label → label ≤ slice_index labels node

-- the label of a node is the greatest label of the nodes that reach
pub record IsHighest (net : NetworkData) (reached : List Bool) (labels : List ℕ) (node : ℕ) : Type 0 where
  pub one : (other : ℕ) × (other < net.nodes) × IsTrue (is_reached reached other) × (slice_index labels node ≡ slice_index labels other)
  pub highest : (other : ℕ) → other < net.nodes → IsTrue (is_reached reached other) → slice_index labels other ≤ slice_index labels node

-- labels that are 0 at the destination, the greatest that the arcs permit at each other node that reaches it,
-- and the greatest of these labels at the nodes that do not
pub record SolvesLabels (net : NetworkData) (destination : ℕ) (reached : List Bool) (labels : List ℕ) : Type 0 where
  pub label_per_node : length labels ≡ net.nodes
  pub zero_at_destination : slice_index labels destination ≡ 0
  pub reaching : (node : ℕ) → node < net.nodes → node ≢ destination → IsTrue (is_reached reached node) → IsGreatest net reached labels node
  pub elsewhere : (node : ℕ) → node < net.nodes → IsFalse (is_reached reached node) → IsHighest net reached labels node

-- one node stands before another: it has a lower label, or the same label and a lower number
abbrev pub StandsBefore : List ℕ → ℕ → ℕ → Type 0
StandsBefore labels one other =
    (slice_index labels one < slice_index labels other) ⊎ ((slice_index labels one ≡ slice_index labels other) × (one < other))

-- the nodes that reach, once each, by label and then by number
pub record IsOrder (reached : List Bool) (labels order : List ℕ) : Type 0 where
  pub reaching : (place : ℕ) → place < length order → IsTrue (is_reached reached (slice_index order place))
  pub all : (node : ℕ) → IsTrue (is_reached reached node) → (place : ℕ) × (place < length order) × (slice_index order place ≡ node)
  pub sorted : (place later : ℕ) → place < later → later < length order →
      StandsBefore labels (slice_index order place) (slice_index order later)
