-- Plans: how flow goes through a network to one destination, and what it costs.
-- The primal feasible solutions of the program of Spiess and Florian 1989, times a common denominator.
use Rattle.std.specs.Prelude.{◌≡◌, ◌≢◌, ℕ, ◌+◌, ◌*◌, ◌<◌, ◌≤◌, List, length, IsTrue, sum, sum_by, slice_index}
use Rattle.definitions.specs.Network.{NetworkData, tail_of, cost_of, weight_of, is_boarding, arc_numbers, out_arcs, in_arcs}

-- the flow out of a node
abbrev pub flow_out_of : NetworkData → List ℕ → ℕ → ℕ
flow_out_of net flows node = sum_by (slice_index flows) (out_arcs net node)

-- the flow into a node
abbrev pub flow_into : NetworkData → List ℕ → ℕ → ℕ
flow_into net flows node = sum_by (slice_index flows) (in_arcs net node)

-- what is due at a node: its demand, scaled, and the flow into it
abbrev pub due_at : NetworkData → ℕ → List ℕ → List ℕ → ℕ → ℕ
due_at net scale demand flows node = scale * slice_index demand node + flow_into net flows node

-- a node sends on what is due
abbrev pub Conserves : NetworkData → ℕ → List ℕ → List ℕ → ℕ → Type 0
Conserves net scale demand flows node = flow_out_of net flows node ≡ due_at net scale demand flows node

-- a boarding arc takes no more than a wait at its tail allows
abbrev pub IsWaitedFor : NetworkData → List ℕ → ℕ → ℕ → Type 0
IsWaitedFor net flows arc wait = net.k * slice_index flows arc ≤ weight_of net arc * wait

-- flows of the arcs and waits of the nodes that carry the demand, times the scale, to the destination
pub record IsPlan (net : NetworkData) (destination scale : ℕ) (demand flows waits : List ℕ) : Type 0 where
  pub flow_per_arc : length flows ≡ length net.arcs
  pub wait_per_node : length waits ≡ net.nodes
  pub conserved : (node : ℕ) → node < net.nodes → node ≢ destination → Conserves net scale demand flows node
  pub waited_for : (arc : ℕ) → arc < length net.arcs → IsTrue (is_boarding net arc) →
      IsWaitedFor net flows arc (slice_index waits (tail_of net arc))

-- the cost of a plan: the cost of each arc times its flow, and the waits
abbrev pub cost_of_plan : NetworkData → List ℕ → List ℕ → ℕ
cost_of_plan net flows waits = sum_by (λ arc. cost_of net arc * slice_index flows arc) (arc_numbers net) + sum waits
