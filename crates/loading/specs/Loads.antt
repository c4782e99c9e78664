-- What a Loads shows, and the refusal of a demand.
use Rattle.std.specs.Prelude.{◌≡◌, ℕ, ◌+◌, ◌<◌, ◌≤◌, Bool, List, length, replicate, sum_by, slice_index}
use Rattle.definitions.specs.Network.{NetworkData, node_numbers}
use Rattle.definitions.specs.Plan.{cost_of_plan}
use Rattle.definitions.specs.Dual.{bound_of_labels}
use Rattle.definitions.specs.Reach.{Reaches}
use Rattle.definitions.specs.Gap.{gap_at, IsEnoughForEach}

-- the volumes of the arcs and the waits of the nodes
pub record LoadsData : Type 0 where
  pub volumes : List ℕ
  pub waits : List ℕ

-- all volumes and waits are 0
abbrev pub nothing_loaded : NetworkData → LoadsData
nothing_loaded net = record { volumes = replicate (length net.arcs) 0; waits = replicate net.nodes 0 }

-- there is room for as many arcs and nodes as the network has
pub record HasRoomFor (net : NetworkData) (loads : LoadsData) : Type 0 where
  pub volume_per_arc : length loads.volumes ≡ length net.arcs
  pub wait_per_node : length loads.waits ≡ net.nodes

-- from each node with demand there is a way to the destination
abbrev pub AllReach : NetworkData → ℕ → List ℕ → Type 0
AllReach net destination demand = (node : ℕ) → node < net.nodes → 0 < slice_index demand node → Reaches net destination node

-- the least node with demand from which no way leads to the destination
pub record IsFirstUnreachable (net : NetworkData) (destination : ℕ) (demand : List ℕ) (node : ℕ) : Type 0 where
  pub there : node < net.nodes
  pub wanted : 0 < slice_index demand node
  pub unreachable : ¬ Reaches net destination node
  pub least : (other : ℕ) → other < node → 0 < slice_index demand other → Reaches net destination other

-- the cost exceeds the bound by at most the sum of the nodes' parts, with any wait that is enough for each boarding arc alone
abbrev pub IsWithinParts : NetworkData → ℕ → List Bool → List ℕ → List ℕ → List ℕ → List ℕ → Type 0
IsWithinParts net destination reached labels demand volumes waits =
    (longest : ℕ) → IsEnoughForEach net longest →
    cost_of_plan net volumes waits ≤
    bound_of_labels demand labels + sum_by (gap_at net destination reached labels demand volumes longest) (node_numbers net)
