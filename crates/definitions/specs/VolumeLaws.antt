-- Laws of volumes and waits, over their definitions alone.
use Rattle.std.specs.Prelude.{◌≡◌, ℕ, ◌<◌, ◌≤◌, Bool, List, length, sum, slice_index}
use Rattle.definitions.specs.Network.{NetworkData, IsWellFormed, tail_of, head_of}
use Rattle.definitions.specs.Plan.{IsPlan}
use Rattle.definitions.specs.Labels.{SolvesLabels}
use Rattle.definitions.specs.Volumes.{units_at, SolvesVolumes, AreLeastWaits, IsCarried}

-- volumes and their least waits are a plan at scale 1
abbrev pub VolumesAreAPlan : Type 0
VolumesAreAPlan = (net : NetworkData) (destination : ℕ) (reached : List Bool) (labels demand volumes waits : List ℕ) → IsWellFormed net →
    SolvesLabels net destination reached labels → IsCarried net destination reached demand →
    SolvesVolumes net destination reached labels demand volumes → AreLeastWaits net volumes waits →
    IsPlan net destination 1 demand volumes waits

-- each arc with volume leads to a strictly lower label
abbrev pub VolumesLeadLower : Type 0
VolumesLeadLower = (net : NetworkData) (destination : ℕ) (reached : List Bool) (labels demand volumes : List ℕ) → IsWellFormed net →
    SolvesVolumes net destination reached labels demand volumes →
    (arc : ℕ) → arc < length net.arcs → 0 < slice_index volumes arc → slice_index labels (head_of net arc) < slice_index labels (tail_of net arc)

-- a node has no more units than there is demand
abbrev pub UnitsAreWithinDemand : Type 0
UnitsAreWithinDemand = (net : NetworkData) (destination : ℕ) (reached : List Bool) (labels demand volumes : List ℕ) → IsWellFormed net →
    SolvesLabels net destination reached labels → IsCarried net destination reached demand →
    SolvesVolumes net destination reached labels demand volumes →
    (node : ℕ) → node < net.nodes → units_at net demand volumes node ≤ sum demand

-- no arc has more volume than there is demand
abbrev pub VolumesAreWithinDemand : Type 0
VolumesAreWithinDemand = (net : NetworkData) (destination : ℕ) (reached : List Bool) (labels demand volumes : List ℕ) → IsWellFormed net →
    SolvesLabels net destination reached labels → IsCarried net destination reached demand →
    SolvesVolumes net destination reached labels demand volumes →
    (arc : ℕ) → arc < length net.arcs → slice_index volumes arc ≤ sum demand

-- at most one list solves the equations of volumes, whatever the labels are
abbrev pub VolumesAreOne : Type 0
VolumesAreOne = (net : NetworkData) (destination : ℕ) (reached : List Bool) (labels demand volumes others : List ℕ) → IsWellFormed net →
    length labels ≡ net.nodes → SolvesVolumes net destination reached labels demand volumes →
    SolvesVolumes net destination reached labels demand others → volumes ≡ others

-- at most one list is that of the least waits
abbrev pub LeastWaitsAreOne : Type 0
LeastWaitsAreOne = (net : NetworkData) (volumes waits others : List ℕ) → AreLeastWaits net volumes waits → AreLeastWaits net volumes others → waits ≡ others
