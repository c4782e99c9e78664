-- Of the arcs of a city just the boardings have a weight.
use Rattle.std.proofs.Common.{◌≡◌, ℕ, ◌+◌, ◌-◌, ◌<◌, ◌==◌, List, [], ◌∷◌, ◌++◌, length, get_or, map, refl, sym, ap, ◌∙◌}
use Rattle.std.specs.Prelude.{All, filter, flat_map, is_some, nat_lt, slice_index}
use Rattle.std.specs.List.{range_with_len}
use Rattle.std.proofs.lemmas.List.{get_or-map, length-map}
use Rattle.std.proofs.lemmas.List.Elements.{All-append, All-map, All-nil}
use Rattle.definitions.specs.declared.arc.NetArc.{NetArc}
use Rattle.definitions.specs.Network.{is_boarding}
use Rattle.demand.specs.declared.tables.WalkRow.{WalkRow}
use Rattle.demand.specs.declared.tables.ZoneLink.{ZoneLink}
use Rattle.network.specs.declared.kinds.ArcKind.TheVariants as arc
use Rattle.network.specs.declared.kinds.NodeKind.{NodeKind}
use Rattle.network.specs.declared.kinds.NodeKind.TheVariants as node
use Rattle.network.specs.Arcs.{CityArc, access_arcs, alight_arcs, alights_at, arcs_from, arcs_of, board_arc, board_arcs, boardings_of, boards_at, dwell_arcs, egress_arcs, free_arc, node_in, place_at, ride_arc, stop_arcs, walk_arc, walk_arcs}
use Rattle.network.specs.Cities.{arc_kind_of, city_of, network_of}
use Rattle.network.specs.Kinds.{is_boarding_kind}
use Rattle.network.specs.Nodes.{nodes_of, places_left}
use Rattle.network.specs.Sources.{Sources, kept_count, kept_line}
use Rattle.network.specs.StopWalks.{walks_from}
use Rattle.network.proofs.ArcLemmas.{one_fits}
use Rattle.network.proofs.FitLemmas.{where_false, where_true}
use Rattle.network.proofs.KeyedLemmas.{all_flat}
use Rattle.network.proofs.NetworkLemmas.{arc_is, no_city_arc}
use Rattle.scenarios.specs.declared.layer.Layer.{Layer}
use Rattle.scenarios.specs.declared.layer.Layer.TheVariants as layer
use Rattle.scenarios.specs.Scenarios.{is_closed}

-- an arc has a weight just where it is a boarding
abbrev pub HasDueWeight : CityArc → Type 0
HasDueWeight found = is_some found.arc.weight ≡ is_boarding_kind found.kind

-- what holds of everything holds of all elements
always : {X : Type 0} (P : X → Type 0) (xs : List X) → ((x : X) → P x) → All P xs
always P xs each k d lt = each (get_or xs k d)

made : {X : Type 0} (f : X → CityArc) (xs : List X) → ((x : X) → HasDueWeight (f x)) → All HasDueWeight (map f xs)
made f xs each = All-map HasDueWeight f xs (always (λ x. HasDueWeight (f x)) xs each)

joined : {X : Type 0} (f : X → List CityArc) (xs : List X) → ((x : X) → All HasDueWeight (f x)) → All HasDueWeight (flat_map f xs)
joined f xs each = all_flat HasDueWeight f xs (always (λ x. All HasDueWeight (f x)) xs each)

access_due : (sources : Sources) (zone : ℕ) → All HasDueWeight (access_arcs sources zone)
access_due sources zone =
    made (λ (link : ZoneLink). walk_arc sources arc.Access (node.Origin zone) (node.First link.stop) link.seconds) (filter (λ (link : ZoneLink). link.zone == zone) sources.zones.links) (λ (link : ZoneLink). refl)

egress_due : (sources : Sources) (l : Layer) (stop : ℕ) → All HasDueWeight (egress_arcs sources l stop)
egress_due sources l stop = made (λ (link : ZoneLink). walk_arc sources arc.Egress (node_in l stop) (node.Goal link.zone) link.seconds) (filter (λ (link : ZoneLink). link.stop == stop) sources.zones.links) (λ (link : ZoneLink). refl)

walks_due : (sources : Sources) (l : Layer) (stop : ℕ) → All HasDueWeight (walk_arcs sources l stop)
walks_due sources l stop = made (λ (walk : WalkRow). walk_arc sources arc.Walk (node_in l stop) (node_in l walk.to) walk.seconds) (walks_from sources.feed sources.walks stop) (λ (walk : WalkRow). refl)

board_due : (sources : Sources) (l : Layer) (stop kept place : ℕ) → HasDueWeight (board_arc sources l stop kept place)
board_due sources layer.First stop kept place = refl
board_due sources layer.Later stop kept place = refl

boards_due : (sources : Sources) (l : Layer) (stop : ℕ) → All HasDueWeight (board_arcs sources l stop)
boards_due sources l stop =
    where_false HasDueWeight (is_closed sources.scenario stop) (flat_map (boardings_of sources l stop) (range_with_len 0 (kept_count sources)))
    (joined (boardings_of sources l stop) (range_with_len 0 (kept_count sources))
    (λ kept. made (board_arc sources l stop kept) (filter (boards_at sources stop kept) (places_left sources kept)) (board_due sources l stop kept)))

stop_due : (sources : Sources) (l : Layer) (stop : ℕ) → All HasDueWeight (stop_arcs sources l stop)
stop_due sources l stop =
    All-append HasDueWeight (egress_arcs sources l stop ++ walk_arcs sources l stop) (board_arcs sources l stop)
    (All-append HasDueWeight (egress_arcs sources l stop) (walk_arcs sources l stop) (egress_due sources l stop) (walks_due sources l stop))
    (boards_due sources l stop)

dwell_due : (sources : Sources) (kept place : ℕ) → All HasDueWeight (dwell_arcs sources kept place)
dwell_due sources kept place =
    let dwell : CityArc = free_arc sources arc.Dwell (node.Reach kept place) (node.Leave kept place) (slice_index (kept_line sources kept).dwells (place - 1)) in
    where_true HasDueWeight (nat_lt (place + 1) (length (kept_line sources kept).places)) (dwell ∷ []) (λ goes_on. one_fits HasDueWeight dwell refl)

alight_due : (sources : Sources) (kept place : ℕ) → All HasDueWeight (alight_arcs sources kept place)
alight_due sources kept place =
    let alight : CityArc = free_arc sources arc.Alight (node.Reach kept place) (node.Later (place_at sources kept place).stop) 1 in
    where_true HasDueWeight (alights_at sources kept place) (alight ∷ []) (λ may. one_fits HasDueWeight alight refl)

from_due : (sources : Sources) (kind : NodeKind) → All HasDueWeight (arcs_from sources kind)
from_due sources (node.Origin zone) = access_due sources zone
from_due sources (node.Goal zone) = All-nil HasDueWeight
from_due sources (node.First stop) = stop_due sources layer.First stop
from_due sources (node.Later stop) = stop_due sources layer.Later stop
from_due sources (node.Leave kept place) = one_fits HasDueWeight (ride_arc sources kept place) refl
from_due sources (node.Reach kept place) = All-append HasDueWeight (dwell_arcs sources kept place) (alight_arcs sources kept place) (dwell_due sources kept place) (alight_due sources kept place)

all_due : (sources : Sources) → All HasDueWeight (arcs_of sources)
unfolding arcs_of
all_due sources = joined (arcs_from sources) (nodes_of sources) (from_due sources)

pub boardings_have_weight : (sources : Sources) (k number : ℕ) → number < length (network_of sources k).arcs →
    is_boarding (network_of sources k) number ≡ is_boarding_kind (arc_kind_of (city_of sources k) number)
boardings_have_weight sources k number lt =
    let within : number < length (arcs_of sources) = rw length-map at lt in
    let kind : arc_kind_of (city_of sources k) number ≡ (get_or (arcs_of sources) number no_city_arc).kind =
    get_or-map (λ (found : CityArc). found.kind) (arcs_of sources) number no_city_arc arc.Walk within in
    ap (λ (one : NetArc). is_some one.weight) (arc_is sources k number lt) ∙ all_due sources number no_city_arc within ∙ sym (ap is_boarding_kind kind)
