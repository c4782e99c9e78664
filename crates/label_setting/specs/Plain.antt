-- The plain program: labels that lie above those of the equations, and come down to them.
use Rattle.std.specs.Prelude.{◌≡◌, ◌≢◌, ℕ, ◌*◌, ◌<◌, ◌≤◌, Bool, true, false, List, length, sum_by, cond, slice_index}
use Rattle.std.specs.List.{range_with_len}
use Rattle.definitions.specs.Network.{NetworkData, tail_of, head_of, weight_of, is_boarding}
use Rattle.definitions.specs.Dual.{time_through, saving}
use Rattle.definitions.specs.Reach.{Reaches, is_reached}
use Rattle.definitions.specs.Labels.{Permits}
use Rattle.definitions.proofs.SavingLemmas.{bears}
use Rattle.label_setting.specs.Partway.{stride}

-- how many nodes are marked
abbrev pub marked : NetworkData → List Bool → ℕ
marked net reached = sum_by (λ node. cond (is_reached reached node) 1 0) (range_with_len 0 net.nodes)

-- how many nodes are not marked
abbrev pub unmarked : NetworkData → List Bool → ℕ
unmarked net reached = sum_by (λ node. cond (is_reached reached node) 0 1) (range_with_len 0 net.nodes)

-- the sum of the labels
abbrev pub label_sum : NetworkData → List ℕ → ℕ
label_sum net labels = sum_by (λ node. slice_index labels node) (range_with_len 0 net.nodes)

-- marked nodes reach, and their labels are no lower than what the arcs between marked nodes permit
pub record IsAbove (net : NetworkData) (destination : ℕ) (reached : List Bool) (labels : List ℕ) : Type 0 where
  pub label_per_node : length labels ≡ net.nodes
  pub mark_per_node : length reached ≡ net.nodes
  pub goal : is_reached reached destination ≡ true
  pub zero : slice_index labels destination ≡ 0
  pub reaches : (node : ℕ) → node < net.nodes → is_reached reached node ≡ true → Reaches net destination node
  pub above : (node : ℕ) → node < net.nodes → is_reached reached node ≡ true → node ≢ destination →
      (label : ℕ) → Permits net reached labels node label → label ≤ slice_index labels node
  pub bounded : (node : ℕ) → slice_index labels node ≤ marked net reached * stride

-- no arc leads from a node that is not marked to one that is
abbrev pub IsClosed : NetworkData → List Bool → Type 0
IsClosed net reached = (arc : ℕ) → arc < length net.arcs → is_reached reached (head_of net arc) ≡ true → is_reached reached (tail_of net arc) ≡ true

-- a free arc that leaves the node and leads from it to a node that reaches, with less than the label
pub record IsForbidden (net : NetworkData) (reached : List Bool) (labels : List ℕ) (node label arc : ℕ) : Type 0 where
  pub tail : tail_of net arc ≡ node
  pub head : is_reached reached (head_of net arc) ≡ true
  pub free : is_boarding net arc ≡ false
  pub less : time_through net labels arc < label

-- an arc that is not such a one
abbrev pub IsFreePast : NetworkData → List Bool → List ℕ → ℕ → ℕ → ℕ → Type 0
IsFreePast net reached labels node label arc =
    tail_of net arc ≡ node → is_reached reached (head_of net arc) ≡ true → is_boarding net arc ≡ false → label ≤ time_through net labels arc

-- what an arc saves against a label at a node, times its weight, where it is boarded there and leads to a node that reaches
abbrev pub saved_by : NetworkData → List Bool → List ℕ → ℕ → ℕ → ℕ → ℕ
saved_by net reached labels node label arc = cond (bears net reached node arc) (weight_of net arc * saving net labels label arc) 0

-- the greatest label of the nodes below a number that reach, or 0
pub record IsFarthestTo (reached : List Bool) (labels : List ℕ) (end far : ℕ) : Type 0 where
  pub one : (node : ℕ) × (is_reached reached node ≡ true) × (far ≡ slice_index labels node)
  pub highest : (node : ℕ) → node < end → is_reached reached node ≡ true → slice_index labels node ≤ far
