-- Room for one destination after another.
use Rattle.std.specs.Prelude.{◌≡◌, ℕ, ◌<◌, ◌≤◌, All, Bool, List, length, sum}
use Rattle.definitions.specs.declared.limits.TheConstants.{LABEL_LIMIT, UNIT_LIMIT, WAIT_LIMIT}
use Rattle.definitions.specs.Gap.{IsLoaded}
use Rattle.definitions.specs.Labels.{IsOrder}
use Rattle.definitions.specs.Network.{NetworkData}
use Rattle.definitions.specs.Reach.{IsReach}
use Rattle.definitions.specs.Volumes.{IsCarried}
use Rattle.label_setting.specs.Workspace.{IsRoomFor}
use Rattle.loading.specs.Loads.{HasRoomFor}
use Rattle.assign.specs.Visits.{Visit, visit_of}
use Rattle.assign.specs.declared.room.Room.{Room}

-- there is room for the nodes and arcs of the network
pub record IsRoom (net : NetworkData) (room : Room) : Type 0 where
  pub labels : IsRoomFor net room.labels
  pub loads : HasRoomFor net room.loads
  pub demand : length room.demand.items ≡ net.nodes

-- a demand can be carried to a destination, whichever marks tell which nodes reach it
abbrev pub CanBeCarried : NetworkData → ℕ → List ℕ → Type 0
CanBeCarried net destination demand = (reached : List Bool) → IsReach net destination reached → IsCarried net destination reached demand

-- the visit of a destination of which the room holds all
abbrev pub visit_in : ℕ → Room → Visit
visit_in destination room = visit_of destination room.demand.items room.labels.labels room.loads.volumes room.loads.waits

-- the room holds the labels of a destination, and the volumes and waits of the demand to there, all within their limits
pub record IsFilled (net : NetworkData) (destination : ℕ) (room : Room) : Type 0 where
  pub there : destination < net.nodes
  pub reach : IsReach net destination room.labels.reached
  pub order : IsOrder room.labels.reached room.labels.labels room.labels.order
  pub loaded : IsLoaded net destination room.labels.reached room.labels.labels room.demand.items room.loads.volumes room.loads.waits
  pub units_within : sum room.demand.items ≤ UNIT_LIMIT
  pub labels_within : All (λ label. label ≤ LABEL_LIMIT) room.labels.labels
  pub volumes_within : All (λ volume. volume ≤ sum room.demand.items) room.loads.volumes
  pub waits_within : All (λ wait. wait ≤ WAIT_LIMIT) room.loads.waits
