-- One destination assigned, as a visitor is told it.
use Rattle.std.specs.Prelude.{◌≡◌, ◌==◌, ℕ, ◌+◌, ◌++◌, Bool, List, Option, map, filter, nat_lt, if◌then◌else◌}
use Rattle.std.specs.List.{list_any, range_with_len}
use Rattle.std.specs.Option.{option_map}
use Rattle.definitions.specs.Gap.{IsLoaded}
use Rattle.definitions.specs.Reach.{IsReach}
use Rattle.demand.specs.declared.tables.Pair.{Pair}
use Rattle.demand.specs.Pairs.{units_from_to}
use Rattle.network.specs.Cities.{CityData}

-- a destination's node with the demand and the labels of each node, the volume of each arc, and the wait at each node
pub record Visit : Type 0 where
  pub destination : ℕ
  pub demand : List ℕ
  pub labels : List ℕ
  pub volumes : List ℕ
  pub waits : List ℕ

-- the visit with these parts
abbrev pub visit_of : ℕ → List ℕ → List ℕ → List ℕ → List ℕ → Visit
visit_of destination demand labels volumes waits = record { destination = destination; demand = demand; labels = labels; volumes = volumes; waits = waits }

-- visits were shown: they are told behind those that were told before, where these are told
abbrev pub AreShown : Option (List Visit) → Option (List Visit) → List Visit → Type 0
AreShown old new visits = new ≡ option_map (λ told. told ++ visits) old

-- the node at which passengers to a zone end
abbrev pub goal_of : CityData → ℕ → ℕ
goal_of city zone = city.zones + zone

-- whether a pair leads to a zone
abbrev pub leads_to : ℕ → Pair → Bool
leads_to zone pair = pair.destination == zone

-- the ones of some zones to which a pair leads
abbrev pub with_demand : List Pair → List ℕ → List ℕ
with_demand pairs zones = filter (λ zone. list_any (leads_to zone) pairs) zones

-- the zones with demand, in order
abbrev pub destinations_of : CityData → List Pair → List ℕ
destinations_of city pairs = with_demand pairs (range_with_len 0 city.zones)

-- the units to a zone at a node: those from its own zone at an origin, and none at other nodes
abbrev pub units_at_node : CityData → List Pair → ℕ → ℕ → ℕ
units_at_node city pairs zone node = if nat_lt node city.zones then units_from_to pairs node zone else 0

-- the demand to a zone at each node: passengers begin at the origins of their zones
abbrev pub demand_to : CityData → List Pair → ℕ → List ℕ
demand_to city pairs zone = map (units_at_node city pairs zone) (range_with_len 0 city.net.nodes)

-- a visit is that of a zone: the demand to it from all zones, the labels of its goal, and the volumes and waits that follow from them
pub record IsVisitOf (city : CityData) (pairs : List Pair) (zone : ℕ) (visit : Visit) : Type 0 where
  pub destination : visit.destination ≡ goal_of city zone
  pub demand : visit.demand ≡ demand_to city pairs zone
  pub reached : List Bool
  pub reach : IsReach city.net visit.destination reached
  pub loaded : IsLoaded city.net visit.destination reached visit.labels visit.demand visit.volumes visit.waits
