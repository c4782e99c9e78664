-- The gap: how far the cost of volumes and waits may lie above the bound of their labels.
-- In the fractions of Spiess and Florian 1989 there is none; here labels, splits and waits are rounded to whole numbers.
use Rattle.std.specs.Prelude.{◌≡◌, ℕ, ◌+◌, ◌*◌, ◌<◌, ◌≤◌, nat_lt, Bool, true, false, ◌&&◌, List, length, IsTrue, sum, sum_by, slice_index, if◌then◌else◌}
use Rattle.definitions.specs.declared.choice.Choice.{Choice}
use Rattle.definitions.specs.declared.choice.Choice.TheVariants.{Stop, Walk, Wait}
use Rattle.definitions.specs.Network.{NetworkData, IsWellFormed, weight_of, is_boarding, node_numbers, out_arcs}
use Rattle.definitions.specs.Plan.{cost_of_plan}
use Rattle.definitions.specs.Dual.{time_through, bound_of_labels}
use Rattle.definitions.specs.Labels.{SolvesLabels}
use Rattle.definitions.specs.Choice.{choice_at}
use Rattle.definitions.specs.Volumes.{units_at, SolvesVolumes, AreLeastWaits, IsCarried}
use Rattle.definitions.specs.Totals.{boarding_stops, slack_of}

-- whether a choice is to wait
abbrev pub is_to_wait : Choice → Bool
is_to_wait Stop = false
is_to_wait (Walk arc) = false
is_to_wait (Wait count weight) = true

-- how far units may cost more than their label each, where this is their choice: where they wait, by their number and twice the longest wait
abbrev pub gap_of : Choice → ℕ → ℕ → ℕ
gap_of choice units longest = if is_to_wait choice && nat_lt 0 units then units + 2 * longest else 0

-- a node's part of the gap: that of its units at its choice
abbrev pub gap_at : NetworkData → ℕ → List Bool → List ℕ → List ℕ → List ℕ → ℕ → ℕ → ℕ
gap_at net destination reached labels demand volumes longest node =
    gap_of (choice_at net destination reached labels node) (units_at net demand volumes node) longest

-- a wait that is no shorter than that for any one boarding arc alone, which is k over the arc's weight
abbrev pub IsEnoughForEach : NetworkData → ℕ → Type 0
IsEnoughForEach net longest = (arc : ℕ) → arc < length net.arcs → IsTrue (is_boarding net arc) → net.k ≤ longest * weight_of net arc

-- the labels of a destination in a well-formed network, a demand that can be carried there, and its volumes and least waits
pub record IsLoaded (net : NetworkData) (destination : ℕ) (reached : List Bool) (labels demand volumes waits : List ℕ) : Type 0 where
  pub well_formed : IsWellFormed net
  pub solves_labels : SolvesLabels net destination reached labels
  pub carried : IsCarried net destination reached demand
  pub solves_volumes : SolvesVolumes net destination reached labels demand volumes
  pub least_waits : AreLeastWaits net volumes waits

-- what it costs to go on from a node: what each arc that leaves it leads to, times its volume, and the wait there
abbrev pub cost_onward : NetworkData → List ℕ → List ℕ → List ℕ → ℕ → ℕ
cost_onward net labels volumes waits node =
    sum_by (λ arc. time_through net labels arc * slice_index volumes arc) (out_arcs net node) + slice_index waits node

-- to go on from a node costs at most its label for each of its units, and the node's part of the gap
abbrev pub NodeIsWithinItsPart : Type 0
NodeIsWithinItsPart = (net : NetworkData) (destination : ℕ) (reached : List Bool) (labels demand volumes waits : List ℕ) (longest : ℕ) →
    IsLoaded net destination reached labels demand volumes waits → IsEnoughForEach net longest → (node : ℕ) → node < net.nodes →
    cost_onward net labels volumes waits node ≤
    units_at net demand volumes node * slice_index labels node + gap_at net destination reached labels demand volumes longest node

-- the cost is at most the bound and the sum of the nodes' parts
abbrev pub GapIsWithinNodes : Type 0
GapIsWithinNodes = (net : NetworkData) (destination : ℕ) (reached : List Bool) (labels demand volumes waits : List ℕ) (longest : ℕ) →
    IsLoaded net destination reached labels demand volumes waits → IsEnoughForEach net longest →
    cost_of_plan net volumes waits ≤
    bound_of_labels demand labels + sum_by (gap_at net destination reached labels demand volumes longest) (node_numbers net)

-- the cost is at most the bound and the slack of one destination
abbrev pub GapIsWithinSlack : Type 0
GapIsWithinSlack = (net : NetworkData) (destination : ℕ) (reached : List Bool) (labels demand volumes waits : List ℕ) (longest : ℕ) →
    IsLoaded net destination reached labels demand volumes waits → IsEnoughForEach net longest →
    cost_of_plan net volumes waits ≤ bound_of_labels demand labels + slack_of (boarding_stops net) (sum demand) longest 1

-- without units the cost and the bound are 0
abbrev pub NoUnitsCostNothing : Type 0
NoUnitsCostNothing = (net : NetworkData) (destination : ℕ) (reached : List Bool) (labels demand volumes waits : List ℕ) →
    IsLoaded net destination reached labels demand volumes waits → sum demand ≡ 0 →
    (cost_of_plan net volumes waits ≡ 0) × (bound_of_labels demand labels ≡ 0)
