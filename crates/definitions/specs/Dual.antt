-- Dual feasible labels, and the bound that they give.
-- The dual of the program of Spiess and Florian 1989.
use Rattle.std.specs.Prelude.{◌≡◌, ◌≢◌, ℕ, ◌+◌, ◌-◌, ◌*◌, ◌<◌, ◌≤◌, List, length, IsFalse, sum_by, slice_index}
use Rattle.std.specs.List.{range_with_len}
use Rattle.definitions.specs.Network.{NetworkData, tail_of, head_of, cost_of, weight_of, is_boarding, boarding_arcs}

-- what an arc leads to: the label of its head and its own cost
abbrev pub time_through : NetworkData → List ℕ → ℕ → ℕ
time_through net labels arc = slice_index labels (head_of net arc) + cost_of net arc

-- what an arc saves against a label at its tail, 0 where it saves nothing
abbrev pub saving : NetworkData → List ℕ → ℕ → ℕ → ℕ
saving net labels label arc = label - time_through net labels arc

-- what arcs save against a label at their tail, each times its weight
abbrev pub weighted_savings : NetworkData → List ℕ → List ℕ → ℕ → ℕ
weighted_savings net labels arcs label = sum_by (λ arc. weight_of net arc * saving net labels label arc) arcs

-- labels that are 0 at the destination, and elsewhere no higher than the node's arcs permit
pub record IsDualFeasible (net : NetworkData) (destination : ℕ) (labels : List ℕ) : Type 0 where
  pub label_per_node : length labels ≡ net.nodes
  pub zero_at_destination : slice_index labels destination ≡ 0
  pub free_arcs : (arc : ℕ) → arc < length net.arcs → tail_of net arc ≢ destination → IsFalse (is_boarding net arc) →
      slice_index labels (tail_of net arc) ≤ time_through net labels arc
  pub boarding : (node : ℕ) → node < net.nodes → node ≢ destination →
      weighted_savings net labels (boarding_arcs net node) (slice_index labels node) ≤ net.k

-- the bound of a demand and labels: the demand of each node times its label
abbrev pub bound_of_labels : List ℕ → List ℕ → ℕ
bound_of_labels demand labels = sum_by (λ node. slice_index demand node * slice_index labels node) (range_with_len 0 (length demand))
