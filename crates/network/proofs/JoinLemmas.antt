-- Each arc of a city joins the nodes that its kind says.
use Rattle.std.proofs.Common.{◌≡◌, ℕ, ◌+◌, ◌-◌, ◌<◌, ◌==◌, [], ◌∷◌, ◌++◌, length, get_or, refl, ap, ◌∙◌, arith}
use Rattle.std.specs.Prelude.{All, filter, flat_map, nat_lt, slice_index}
use Rattle.std.specs.List.{range_with_len}
use Rattle.std.proofs.lemmas.Bool.{ltb-true}
use Rattle.std.proofs.lemmas.List.{get_or-map, length-map}
use Rattle.std.proofs.lemmas.List.Elements.{All-append, All-filter, All-map, All-nil, All-weaker}
use Rattle.std.proofs.lemmas.List.FromFn.{get_or-range_with_len, length-range_with_len}
use Rattle.std.proofs.lemmas.Option.{get_or_from_slice_get}
use Rattle.definitions.proofs.Spans.{filter_keeps}
use Rattle.definitions.specs.Network.{head_of, tail_of}
use Rattle.definitions.specs.declared.arc.NetArc.{NetArc}
use Rattle.demand.specs.Laws.{IsLinkAmong}
use Rattle.demand.specs.declared.tables.WalkRow.{WalkRow}
use Rattle.demand.specs.declared.tables.ZoneLink.{ZoneLink}
use Rattle.headways.specs.Laws.{IsLineOf}
use Rattle.network.specs.declared.kinds.ArcKind.{ArcKind}
use Rattle.network.specs.declared.kinds.ArcKind.TheVariants as arc
use Rattle.network.specs.declared.kinds.NodeKind.{NodeKind}
use Rattle.network.specs.declared.kinds.NodeKind.TheVariants as node
use Rattle.network.specs.Arcs.{CityArc, access_arcs, alight_arcs, alights_at, arcs_from, arcs_of, board_arc, board_arcs, boardings_of, boards_at, dwell_arcs, egress_arcs, free_arc, no_place, node_in, place_at, ride_arc, stop_arcs, walk_arc, walk_arcs}
use Rattle.network.specs.Cities.{arc_kind_of, city_of, network_of, node_kind_of}
use Rattle.network.specs.Conditions.{AreSources}
use Rattle.network.specs.Joins.{Joins, accesses, alights, boards, dwells, egresses, rides, walks}
use Rattle.network.specs.Nodes.{nodes_of, number_of, places_left}
use Rattle.network.specs.Sources.{Sources, kept_count, kept_line, kept_numbers, no_line, stop_count, walk_ticks, weight_in, zone_count}
use Rattle.network.specs.StopWalks.{walks_from}
use Rattle.network.specs.Towns.{HasNode, HasReach, HasSegment}
use Rattle.network.proofs.ArcLemmas.{one_fits}
use Rattle.network.proofs.FitLemmas.{walks_lead, where_false, where_true}
use Rattle.network.proofs.KeyedLemmas.{all_flat, all_stand}
use Rattle.network.proofs.NetworkLemmas.{arc_is, no_city_arc}
use Rattle.network.proofs.NodeLemmas.{has_stop, node_stands, segments}
use Rattle.network.proofs.NumberLemmas.{node_numbered}
use Rattle.scenarios.specs.declared.layer.Layer.{Layer}
use Rattle.scenarios.specs.declared.layer.Layer.TheVariants as layer
use Rattle.scenarios.specs.Scenarios.{is_closed}

-- an arc leads from a node that there is to another one, and joins what they stand for
pub record JoinsNodes (sources : Sources) (found : CityArc) : Type 0 where
  pub from : NodeKind
  pub to : NodeKind
  pub from_there : HasNode sources from
  pub to_there : HasNode sources to
  pub tail : found.arc.tail ≡ number_of sources from
  pub head : found.arc.head ≡ number_of sources to
  pub joins : Joins found.kind from to

-- a free arc does, where its kind joins its nodes
free_joins : (sources : Sources) (kind : ArcKind) (from to : NodeKind) (cost : ℕ) → HasNode sources from → HasNode sources to → Joins kind from to →
    JoinsNodes sources (free_arc sources kind from to cost)
free_joins sources kind from to cost here there join =
    record { from = from; to = to; from_there = here; to_there = there; tail = refl; head = refl; joins = join }

-- ---- zones and stops

-- the access arcs of a zone
access_join : (sources : Sources) (zone : ℕ) → AreSources sources → zone < zone_count sources → All (JoinsNodes sources) (access_arcs sources zone)
access_join sources zone ok here =
    All-map (JoinsNodes sources) (λ (link : ZoneLink). walk_arc sources arc.Access (node.Origin zone) (node.First link.stop) link.seconds)
    (filter (λ (link : ZoneLink). link.zone == zone) sources.zones.links)
    (All-filter (λ (link : ZoneLink). link.zone == zone)
    (λ (link : ZoneLink). JoinsNodes sources (walk_arc sources arc.Access (node.Origin zone) (node.First link.stop) link.seconds))
    sources.zones.links
    (All-weaker (IsLinkAmong (zone_count sources) (stop_count sources))
    (λ (link : ZoneLink). JoinsNodes sources (walk_arc sources arc.Access (node.Origin zone) (node.First link.stop) link.seconds))
    (λ (link : ZoneLink) among.
    free_joins sources arc.Access (node.Origin zone) (node.First link.stop) (walk_ticks sources link.seconds) here among.stop (accesses zone link.stop refl refl refl))
    sources.zones.links ok.links))

-- the egress arcs of a stop
egress_join : (sources : Sources) (l : Layer) (stop : ℕ) → AreSources sources → HasNode sources (node_in l stop) → All (JoinsNodes sources) (egress_arcs sources l stop)
egress_join sources l stop ok here =
    All-map (JoinsNodes sources) (λ (link : ZoneLink). walk_arc sources arc.Egress (node_in l stop) (node.Goal link.zone) link.seconds)
    (filter (λ (link : ZoneLink). link.stop == stop) sources.zones.links)
    (All-filter (λ (link : ZoneLink). link.stop == stop)
    (λ (link : ZoneLink). JoinsNodes sources (walk_arc sources arc.Egress (node_in l stop) (node.Goal link.zone) link.seconds))
    sources.zones.links
    (All-weaker (IsLinkAmong (zone_count sources) (stop_count sources))
    (λ (link : ZoneLink). JoinsNodes sources (walk_arc sources arc.Egress (node_in l stop) (node.Goal link.zone) link.seconds))
    (λ (link : ZoneLink) among.
    free_joins sources arc.Egress (node_in l stop) (node.Goal link.zone) (walk_ticks sources link.seconds) here among.zone (egresses l stop link.zone refl refl refl))
    sources.zones.links ok.links))

-- its walks
walks_join : (sources : Sources) (l : Layer) (stop : ℕ) → HasNode sources (node_in l stop) → All (JoinsNodes sources) (walk_arcs sources l stop)
walks_join sources l stop here =
    All-map (JoinsNodes sources) (λ (walk : WalkRow). walk_arc sources arc.Walk (node_in l stop) (node_in l walk.to) walk.seconds)
    (walks_from sources.feed sources.walks stop)
    (All-weaker (λ (walk : WalkRow). walk.to < stop_count sources)
    (λ (walk : WalkRow). JoinsNodes sources (walk_arc sources arc.Walk (node_in l stop) (node_in l walk.to) walk.seconds))
    (λ (walk : WalkRow) lt.
    free_joins sources arc.Walk (node_in l stop) (node_in l walk.to) (walk_ticks sources walk.seconds) here (has_stop sources l walk.to lt) (walks l stop walk.to refl refl refl))
    (walks_from sources.feed sources.walks stop) (walks_lead sources.feed sources.walks stop))

-- a boarding
boarding_joins : (sources : Sources) (l : Layer) (stop kept place : ℕ) → HasNode sources (node_in l stop) → HasSegment sources kept place →
    JoinsNodes sources (board_arc sources l stop kept place)
boarding_joins sources l stop kept place here there = record {
  from = node_in l stop;
  to = node.Leave kept place;
  from_there = here;
  to_there = there;
  tail = refl;
  head = refl;
  joins = boards l stop kept place refl refl refl;
}

-- the boardings of a kept line at a stop
boardings_join : (sources : Sources) (l : Layer) (stop kept : ℕ) → HasNode sources (node_in l stop) → kept < kept_count sources →
    All (JoinsNodes sources) (boardings_of sources l stop kept)
boardings_join sources l stop kept here lt =
    All-map (JoinsNodes sources) (board_arc sources l stop kept) (filter (boards_at sources stop kept) (places_left sources kept))
    (λ k d on.
    let within = (filter_keeps (boards_at sources stop kept) 0 (segments sources kept) k d on).0 in
    boarding_joins sources l stop kept (get_or (filter (boards_at sources stop kept) (places_left sources kept)) k d) here (record { kept = lt; next = omega arith }))

-- all boardings at a stop
boards_join : (sources : Sources) (l : Layer) (stop : ℕ) → HasNode sources (node_in l stop) → All (JoinsNodes sources) (board_arcs sources l stop)
boards_join sources l stop here =
    where_false (JoinsNodes sources) (is_closed sources.scenario stop) (flat_map (boardings_of sources l stop) (range_with_len 0 (kept_count sources)))
    (all_flat (JoinsNodes sources) (boardings_of sources l stop) (range_with_len 0 (kept_count sources))
    (λ k d on.
    let size = length-range_with_len 0 (kept_count sources) in
    let at = get_or-range_with_len 0 (kept_count sources) k d (omega arith) in
    let lt : get_or (range_with_len 0 (kept_count sources)) k d < kept_count sources = omega arith in
    boardings_join sources l stop (get_or (range_with_len 0 (kept_count sources)) k d) here lt))

-- all arcs from a node of a stop
stop_join : (sources : Sources) (l : Layer) (stop : ℕ) → AreSources sources → HasNode sources (node_in l stop) → All (JoinsNodes sources) (stop_arcs sources l stop)
stop_join sources l stop ok here =
    All-append (JoinsNodes sources) (egress_arcs sources l stop ++ walk_arcs sources l stop) (board_arcs sources l stop)
    (All-append (JoinsNodes sources) (egress_arcs sources l stop) (walk_arcs sources l stop) (egress_join sources l stop ok here) (walks_join sources l stop here))
    (boards_join sources l stop here)

-- ---- kept lines

-- a place that a line reaches is one more than another place
one_before : (place : ℕ) → 0 < place → place ≡ place - 1 + 1
one_before place some = omega arith

-- the dwell at a place, if there is one
dwells_join : (sources : Sources) (kept place : ℕ) → HasReach sources kept place → All (JoinsNodes sources) (dwell_arcs sources kept place)
dwells_join sources kept place here =
    where_true (JoinsNodes sources) (nat_lt (place + 1) (length (kept_line sources kept).places))
    (free_arc sources arc.Dwell (node.Reach kept place) (node.Leave kept place) (slice_index (kept_line sources kept).dwells (place - 1)) ∷ [])
    (λ test.
    one_fits (JoinsNodes sources)
    (free_arc sources arc.Dwell (node.Reach kept place) (node.Leave kept place) (slice_index (kept_line sources kept).dwells (place - 1)))
    (free_joins sources arc.Dwell (node.Reach kept place) (node.Leave kept place) (slice_index (kept_line sources kept).dwells (place - 1)) here
    (record { kept = here.kept; next = ltb-true (place + 1) (length (kept_line sources kept).places) test })
    (dwells kept (place - 1) refl (ap (node.Reach kept) (one_before place here.later)) (ap (node.Leave kept) (one_before place here.later)))))

-- the alighting at a place, if there is one
alights_join : (sources : Sources) (kept place : ℕ) → IsLineOf sources.feed (kept_line sources kept) → HasReach sources kept place →
    All (JoinsNodes sources) (alight_arcs sources kept place)
alights_join sources kept place line here =
    where_true (JoinsNodes sources) (alights_at sources kept place)
    (free_arc sources arc.Alight (node.Reach kept place) (node.Later (place_at sources kept place).stop) 1 ∷ [])
    (λ test.
    one_fits (JoinsNodes sources) (free_arc sources arc.Alight (node.Reach kept place) (node.Later (place_at sources kept place).stop) 1)
    (free_joins sources arc.Alight (node.Reach kept place) (node.Later (place_at sources kept place).stop) 1 here (line.stops place no_place here.within)
    (alights kept (place - 1) (place_at sources kept place).stop refl (ap (node.Reach kept) (one_before place here.later)) refl)))

-- a kept line is one of the lines
line_there : (sources : Sources) (kept : ℕ) → AreSources sources → kept < kept_count sources → IsLineOf sources.feed (kept_line sources kept)
unfolding kept_numbers
line_there sources kept ok lt =
    let found = filter_keeps (λ number. nat_lt 0 (weight_in sources number)) 0 (length sources.lines) kept 0 lt in
    let within = found.0 in
    ok.lines (get_or (kept_numbers sources) kept 0) no_line (omega arith)

-- ---- all nodes

-- the arcs from a node that there is
from_join : (sources : Sources) (kind : NodeKind) → AreSources sources → HasNode sources kind → All (JoinsNodes sources) (arcs_from sources kind)
from_join sources (node.Origin zone) ok here = access_join sources zone ok here
from_join sources (node.Goal zone) ok here = All-nil (JoinsNodes sources)
from_join sources (node.First stop) ok here = stop_join sources layer.First stop ok here
from_join sources (node.Later stop) ok here = stop_join sources layer.Later stop ok here
from_join sources (node.Leave kept place) ok here =
    let next = here.next in
    one_fits (JoinsNodes sources) (ride_arc sources kept place)
    (free_joins sources arc.Ride (node.Leave kept place) (node.Reach kept (place + 1)) (slice_index (kept_line sources kept).rides place) here
    (record { kept = here.kept; later = omega arith; within = next }) (rides kept place refl refl refl))
from_join sources (node.Reach kept place) ok here =
    All-append (JoinsNodes sources) (dwell_arcs sources kept place) (alight_arcs sources kept place)
    (dwells_join sources kept place here) (alights_join sources kept place (line_there sources kept ok here.kept) here)

-- all arcs of the city
all_join : (sources : Sources) → AreSources sources → All (JoinsNodes sources) (arcs_of sources)
unfolding arcs_of
all_join sources ok =
    all_flat (JoinsNodes sources) (arcs_from sources) (nodes_of sources)
    (all_stand (λ kind. All (JoinsNodes sources) (arcs_from sources kind)) (nodes_of sources)
    (λ place kind here. from_join sources kind ok (node_numbered sources place kind here).there))

-- what holds of things holds of the same things
along : (kind found : ArcKind) (from one to other : NodeKind) → found ≡ kind → one ≡ from → other ≡ to → Joins kind from to → Joins found one other
along kind found from one to other p q r join = rw (p, q, r) join

-- each arc of the network joins what the nodes at its ends stand for
pub arcs_join : (sources : Sources) (k number : ℕ) → AreSources sources → number < length (network_of sources k).arcs →
    Joins (arc_kind_of (city_of sources k) number) (node_kind_of (city_of sources k) (tail_of (network_of sources k) number))
    (node_kind_of (city_of sources k) (head_of (network_of sources k) number))
arcs_join sources k number ok lt =
    let within : number < length (arcs_of sources) = rw length-map at lt in
    let found = get_or (arcs_of sources) number no_city_arc in
    let join = all_join sources ok number no_city_arc within in
    let kind : arc_kind_of (city_of sources k) number ≡ found.kind =
    get_or-map (λ (each : CityArc). each.kind) (arcs_of sources) number no_city_arc arc.Walk within in
    let is = arc_is sources k number lt in
    let tail : node_kind_of (city_of sources k) (tail_of (network_of sources k) number) ≡ join.from =
    ap (λ (one : NetArc). get_or (nodes_of sources) one.tail (node.Origin 0)) is
    ∙ ap (λ n. get_or (nodes_of sources) n (node.Origin 0)) join.tail
    ∙ get_or_from_slice_get (nodes_of sources) (number_of sources join.from) join.from (node.Origin 0) (node_stands sources join.from join.from_there) in
    let head : node_kind_of (city_of sources k) (head_of (network_of sources k) number) ≡ join.to =
    ap (λ (one : NetArc). get_or (nodes_of sources) one.head (node.Origin 0)) is
    ∙ ap (λ n. get_or (nodes_of sources) n (node.Origin 0)) join.head
    ∙ get_or_from_slice_get (nodes_of sources) (number_of sources join.to) join.to (node.Origin 0) (node_stands sources join.to join.to_there) in
    along found.kind (arc_kind_of (city_of sources k) number) join.from (node_kind_of (city_of sources k) (tail_of (network_of sources k) number))
    join.to (node_kind_of (city_of sources k) (head_of (network_of sources k) number)) kind tail head join.joins
