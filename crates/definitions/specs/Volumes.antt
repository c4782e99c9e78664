-- The volumes of arcs and the waits of nodes that follow from the choices of all passengers to one destination.
-- After Spiess and Florian 1989, in whole units; waits are in ticks times units. Here: docs/FORMATS.md.
use Rattle.std.specs.Prelude.{◌≡◌, ℕ, ◌+◌, ◌<◌, ◌≤◌, ◌==◌, Bool, List, length, IsTrue, IsFalse, slice_index, if◌then◌else◌}
use Rattle.definitions.specs.declared.choice.Choice.{Choice}
use Rattle.definitions.specs.declared.choice.Choice.TheVariants.{Stop, Walk, Wait}
use Rattle.definitions.specs.Network.{NetworkData, tail_of, weight_of, is_boarding}
use Rattle.definitions.specs.Plan.{flow_into, IsWaitedFor}
use Rattle.definitions.specs.Reach.{is_reached}
use Rattle.definitions.specs.Split.{share}
use Rattle.definitions.specs.Choice.{is_attractive, attractive_arcs, choice_at}

-- the units of passengers at a node: its demand and what comes to it
abbrev pub units_at : NetworkData → List ℕ → List ℕ → ℕ → ℕ
units_at net demand volumes node = slice_index demand node + flow_into net volumes node

-- what an arc takes of the units at its tail, where this is the choice there
abbrev pub part_of : NetworkData → List Bool → List ℕ → Choice → ℕ → ℕ → ℕ
part_of net reached labels Stop units arc = 0
part_of net reached labels (Walk chosen) units arc = if arc == chosen then units else 0
part_of net reached labels (Wait count weight) units arc =
    if is_attractive net reached labels arc then share units (weight_of net) (attractive_arcs net reached labels (tail_of net arc)) arc else 0

-- volumes that solve their equations: each arc has its part of the units at its tail
pub record SolvesVolumes (net : NetworkData) (destination : ℕ) (reached : List Bool) (labels demand volumes : List ℕ) : Type 0 where
  pub volume_per_arc : length volumes ≡ length net.arcs
  pub parts : (arc : ℕ) → arc < length net.arcs → slice_index volumes arc ≡
      part_of net reached labels (choice_at net destination reached labels (tail_of net arc)) (units_at net demand volumes (tail_of net arc)) arc

-- a wait at a node that is long enough for each boarding arc that leaves it
abbrev pub IsLongEnough : NetworkData → List ℕ → ℕ → ℕ → Type 0
IsLongEnough net volumes node wait =
    (arc : ℕ) → arc < length net.arcs → tail_of net arc ≡ node → IsTrue (is_boarding net arc) → IsWaitedFor net volumes arc wait

-- the least waits that are long enough for volumes
pub record AreLeastWaits (net : NetworkData) (volumes waits : List ℕ) : Type 0 where
  pub wait_per_node : length waits ≡ net.nodes
  pub enough : (node : ℕ) → node < net.nodes → IsLongEnough net volumes node (slice_index waits node)
  pub least : (node wait : ℕ) → node < net.nodes → IsLongEnough net volumes node wait → slice_index waits node ≤ wait

-- the demand of each node can be carried: there is none at the destination, and none where no way leads there
pub record IsCarried (net : NetworkData) (destination : ℕ) (reached : List Bool) (demand : List ℕ) : Type 0 where
  pub demand_per_node : length demand ≡ net.nodes
  pub none_at_destination : slice_index demand destination ≡ 0
  pub only_reaching : (node : ℕ) → node < net.nodes → IsFalse (is_reached reached node) → slice_index demand node ≡ 0
