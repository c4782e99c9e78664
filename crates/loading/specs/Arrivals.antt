-- What has arrived at the nodes while their arcs are loaded.
use Rattle.std.specs.Prelude.{◌≡◌, ℕ, ◌+◌, ◌<◌, ◌==◌, List, length, sum_by, slice_index, if◌then◌else◌}
use Rattle.std.specs.List.{range_with_len}
use Rattle.definitions.specs.Network.{NetworkData, head_of}
use Rattle.definitions.specs.Plan.{flow_into}
use Rattle.definitions.specs.Volumes.{units_at}

-- the units at each node are those that volumes bring there, and its demand
pub record HasArrived (net : NetworkData) (demand volumes arrived : List ℕ) : Type 0 where
  pub number_per_node : length arrived ≡ net.nodes
  pub each : (node : ℕ) → node < net.nodes → slice_index arrived node ≡ units_at net demand volumes node

-- from some volumes to others, the units at each node grow as the flow into it does
abbrev pub GrowsAsFlow : NetworkData → List ℕ → List ℕ → List ℕ → List ℕ → Type 0
GrowsAsFlow net volumes arrived next_volumes next_arrived = (node : ℕ) → node < net.nodes →
    slice_index next_arrived node + flow_into net volumes node ≡ slice_index arrived node + flow_into net next_volumes node

-- the flow into a node on arcs that follow one another
abbrev pub flow_among : NetworkData → List ℕ → ℕ → ℕ → ℕ → ℕ
flow_among net volumes first count node =
    sum_by (λ arc. if head_of net arc == node then slice_index volumes arc else 0) (range_with_len first count)
