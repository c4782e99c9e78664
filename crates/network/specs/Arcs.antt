-- The arcs of the network of a city. Here: docs/FORMATS.md.
use Rattle.std.specs.Prelude.{◌==◌, ◌&&◌, ◌+◌, ◌-◌, ◌++◌, ℕ, Bool, not, List, [], ◌∷◌, Some, None, map, filter, flat_map, length, nat_lt, if◌then◌else◌, slice_index, slice_index_or}
use Rattle.std.specs.List.{range_with_len}
use Rattle.definitions.specs.declared.arc.NetArc.{NetArc}
use Rattle.headways.specs.declared.line.LinePlace.{LinePlace}
use Rattle.network.specs.declared.kinds.ArcKind.{ArcKind}
use Rattle.network.specs.declared.kinds.ArcKind.TheVariants as arc
use Rattle.network.specs.declared.kinds.NodeKind.{NodeKind}
use Rattle.network.specs.declared.kinds.NodeKind.TheVariants as node
use Rattle.network.specs.Nodes.{nodes_of, number_of, places_left}
use Rattle.network.specs.Sources.{Sources, kept_count, kept_line, kept_weight, walk_ticks}
use Rattle.network.specs.StopWalks.{walks_from}
use Rattle.scenarios.specs.declared.layer.Layer.{Layer}
use Rattle.scenarios.specs.declared.layer.Layer.TheVariants as layer
use Rattle.scenarios.specs.Scenarios.{is_closed, ticks_of}

-- an arc and what it stands for
pub record CityArc : Type 0 where
  pub arc : NetArc
  pub kind : ArcKind

-- a free arc from a node to another
abbrev pub free_arc : Sources → ArcKind → NodeKind → NodeKind → ℕ → CityArc
free_arc sources kind from to cost = record {
  arc = record { tail = number_of sources from; head = number_of sources to; cost = cost; weight = None };
  kind = kind;
}

-- a walk of so many seconds from a node to another
abbrev pub walk_arc : Sources → ArcKind → NodeKind → NodeKind → ℕ → CityArc
walk_arc sources kind from to seconds = free_arc sources kind from to (walk_ticks sources seconds)

-- the node of a stop in a layer
abbrev pub node_in : Layer → ℕ → NodeKind
node_in layer.First stop = node.First stop
node_in layer.Later stop = node.Later stop

-- the boarding of a layer
abbrev pub boarding_in : Layer → ArcKind
boarding_in layer.First = arc.BoardFirst
boarding_in layer.Later = arc.BoardLater

-- the access arcs of a zone: one per link of it, to the first node of the stop
abbrev pub access_arcs : Sources → ℕ → List CityArc
access_arcs sources zone =
    map (λ link. walk_arc sources arc.Access (node.Origin zone) (node.First link.stop) link.seconds)
    (filter (λ link. link.zone == zone) sources.zones.links)

-- the egress arcs of a stop in a layer: one per link of it, to the goal of the zone
abbrev pub egress_arcs : Sources → Layer → ℕ → List CityArc
egress_arcs sources layer stop =
    map (λ link. walk_arc sources arc.Egress (node_in layer stop) (node.Goal link.zone) link.seconds)
    (filter (λ link. link.stop == stop) sources.zones.links)

-- the walks of a stop in a layer, to the nodes of other stops in the same layer
abbrev pub walk_arcs : Sources → Layer → ℕ → List CityArc
walk_arcs sources layer stop =
    map (λ walk. walk_arc sources arc.Walk (node_in layer stop) (node_in layer walk.to) walk.seconds) (walks_from sources.feed sources.walks stop)

-- what stands for a place of a line where there is none
abbrev pub no_place : LinePlace
no_place = record { stop = 0; pickup = Bool.false; drop = Bool.false }

-- a place of a kept line
abbrev pub place_at : Sources → ℕ → ℕ → LinePlace
place_at sources kept place = slice_index_or (kept_line sources kept).places place no_place

-- whether passengers may board a kept line at a stop when it is at this place
abbrev pub boards_at : Sources → ℕ → ℕ → ℕ → Bool
boards_at sources stop kept place = (place_at sources kept place).stop == stop && (place_at sources kept place).pickup

-- the boarding of a kept line at a place from a stop in a layer
abbrev pub board_arc : Sources → Layer → ℕ → ℕ → ℕ → CityArc
board_arc sources layer stop kept place = record {
  arc = record {
    tail = number_of sources (node_in layer stop);
    head = number_of sources (node.Leave kept place);
    cost = ticks_of sources.scenario (kept_line sources kept).route layer;
    weight = Some (kept_weight sources kept);
  };
  kind = boarding_in layer;
}

-- the boardings of a kept line from a stop in a layer: one per place there that the line leaves and at which passengers may board
abbrev pub boardings_of : Sources → Layer → ℕ → ℕ → List CityArc
boardings_of sources layer stop kept = map (board_arc sources layer stop kept) (filter (boards_at sources stop kept) (places_left sources kept))

-- the boardings from a stop in a layer: none where the stop is closed
abbrev pub board_arcs : Sources → Layer → ℕ → List CityArc
board_arcs sources layer stop =
    if is_closed sources.scenario stop then [] else flat_map (boardings_of sources layer stop) (range_with_len 0 (kept_count sources))

-- the arcs from a stop in a layer
abbrev pub stop_arcs : Sources → Layer → ℕ → List CityArc
stop_arcs sources layer stop = egress_arcs sources layer stop ++ walk_arcs sources layer stop ++ board_arcs sources layer stop

-- the ride of a kept line from a place to the next
abbrev pub ride_arc : Sources → ℕ → ℕ → CityArc
ride_arc sources kept place =
    free_arc sources arc.Ride (node.Leave kept place) (node.Reach kept (place + 1)) (slice_index (kept_line sources kept).rides place)

-- the dwell of a kept line at a place, if it goes on from there
abbrev pub dwell_arcs : Sources → ℕ → ℕ → List CityArc
dwell_arcs sources kept place =
    if nat_lt (place + 1) (length (kept_line sources kept).places)
    then free_arc sources arc.Dwell (node.Reach kept place) (node.Leave kept place) (slice_index (kept_line sources kept).dwells (place - 1)) ∷ []
    else []

-- whether passengers may alight from a kept line at a place
abbrev pub alights_at : Sources → ℕ → ℕ → Bool
alights_at sources kept place = (place_at sources kept place).drop && not (is_closed sources.scenario (place_at sources kept place).stop)

-- the alighting from a kept line at a place, in one tick, if passengers may
abbrev pub alight_arcs : Sources → ℕ → ℕ → List CityArc
alight_arcs sources kept place =
    if alights_at sources kept place
    then free_arc sources arc.Alight (node.Reach kept place) (node.Later (place_at sources kept place).stop) 1 ∷ []
    else []

-- the arcs that leave a node
abbrev pub arcs_from : Sources → NodeKind → List CityArc
arcs_from sources (node.Origin zone) = access_arcs sources zone
arcs_from sources (node.Goal zone) = []
arcs_from sources (node.First stop) = stop_arcs sources layer.First stop
arcs_from sources (node.Later stop) = stop_arcs sources layer.Later stop
arcs_from sources (node.Leave kept place) = ride_arc sources kept place ∷ []
arcs_from sources (node.Reach kept place) = dwell_arcs sources kept place ++ alight_arcs sources kept place

-- all arcs, by the order of the nodes that they leave
unfoldable pub arcs_of : Sources → List CityArc
arcs_of sources = flat_map (arcs_from sources) (nodes_of sources)
