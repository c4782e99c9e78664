-- What a draft keeps at each stage.
use Rattle.std.specs.Prelude.{◌≡◌, ℕ, ◌<◌, ◌≤◌, ◌+◌, [], length, All, sum, slice_index}
use Rattle.definitions.specs.declared.limits.TheConstants.{NODE_LIMIT, ARC_LIMIT, K_LIMIT, UNIT_LIMIT, LABEL_LIMIT, VOLUME_LIMIT, WAIT_LIMIT}
use Rattle.definitions.specs.Network.{NetworkData, arc_at}
use Rattle.lp_model.specs.Faults.{arc_faults, tail_before}
use Rattle.certificate.specs.declared.stage.Stage.{Stage}
use Rattle.certificate.specs.declared.stage.Stage.TheVariants as stage
use Rattle.certificate.specs.Draft.{DraftData, network_so_far}

-- the numbers of the header are within their limits
pub record HasSizes (d : DraftData) : Type 0 where
  pub nodes : d.nodes ≤ NODE_LIMIT
  pub arcs : d.arc_count ≤ ARC_LIMIT
  pub k : d.k ≤ K_LIMIT

-- no row is read
pub record HasNoRows (d : DraftData) : Type 0 where
  pub units : d.units ≡ 0
  pub arcs : d.arcs ≡ []
  pub demand : d.demand ≡ []
  pub labels : d.labels ≡ []
  pub volumes : d.volumes ≡ []
  pub waits : d.waits ≡ []

-- no kind of row has more than it is told to have, and none begins before the kind before it is whole
pub record IsInOrder (d : DraftData) : Type 0 where
  pub arcs : length d.arcs ≤ d.arc_count
  pub demand : length d.demand ≤ d.nodes
  pub labels : length d.labels ≤ d.nodes
  pub volumes : length d.volumes ≤ d.arc_count
  pub waits : length d.waits ≤ d.nodes
  pub arcs_first : length d.arcs < d.arc_count → length d.demand ≡ 0
  pub demand_then : length d.demand < d.nodes → length d.labels ≡ 0
  pub labels_then : length d.labels < d.nodes → length d.volumes + length d.waits ≡ 0
  pub volumes_then : length d.volumes < d.arc_count → length d.waits ≡ 0

-- each arc keeps the rules of networks
abbrev pub HasGoodArcs : NetworkData → Type 0
HasGoodArcs net = (arc : ℕ) → arc < length net.arcs → arc_faults net.nodes (tail_before net arc) arc (arc_at net arc) ≡ []

-- each number of the rows is within its limit, and the destination has no demand
pub record HasRows (d : DraftData) : Type 0 where
  pub order : IsInOrder d
  pub destination : d.destination < d.nodes
  pub arcs : HasGoodArcs (network_so_far d)
  pub no_demand : slice_index d.demand d.destination ≡ 0
  pub units : d.units ≡ sum d.demand
  pub few_units : d.units ≤ UNIT_LIMIT
  pub labels : All (λ label. label ≤ LABEL_LIMIT) d.labels
  pub volumes : All (λ volume. volume ≤ VOLUME_LIMIT) d.volumes
  pub waits : All (λ wait. wait ≤ WAIT_LIMIT) d.waits

-- the rows are whole
pub record IsWhole (d : DraftData) : Type 0 where
  pub rows : HasRows d
  pub last : length d.waits ≡ d.nodes

-- what stands at a stage
abbrev pub IsAtStage : Stage → DraftData → Type 0
IsAtStage stage.Title d = HasNoRows d
IsAtStage stage.Nodes d = HasNoRows d
IsAtStage stage.Arcs d = HasNoRows d
IsAtStage stage.K d = HasNoRows d
IsAtStage stage.Destination d = HasNoRows d
IsAtStage stage.Rows d = HasRows d
IsAtStage stage.Done d = IsWhole d

-- what every draft keeps
pub record IsKept (d : DraftData) : Type 0 where
  pub sizes : HasSizes d
  pub rows : IsAtStage d.stage d
