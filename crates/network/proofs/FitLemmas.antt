-- Arcs from a node: where they lead, and that their costs and weights are positive. Here those of zones and walks.
use Rattle.std.proofs.Common.{◌≡◌, ℕ, ◌<◌, ◌≤◌, Bool, true, false, List, [], Option, Some, None, length, get_or, refl, arith}
use Rattle.std.specs.Prelude.{◌==◌, not, All, filter, is_some, unwrap_or, if◌then◌else◌}
use Rattle.std.proofs.lemmas.List.Elements.{All-cons, All-filter, All-map, All-nil, All-weaker}
use Rattle.std.proofs.lemmas.Option.{slice_get_within}
use Rattle.definitions.proofs.Spans.{filter_keeps}
use Rattle.definitions.specs.declared.limits.TheConstants.{WEIGHT_LIMIT}
use Rattle.demand.specs.Laws.{IsLinkAmong}
use Rattle.demand.specs.declared.tables.WalkRow.{WalkRow}
use Rattle.feed_reader.specs.Feed.{FeedData}
use Rattle.network.specs.declared.kinds.ArcKind.{ArcKind}
use Rattle.network.specs.declared.kinds.ArcKind.TheVariants as arc
use Rattle.network.specs.declared.kinds.NodeKind.{NodeKind}
use Rattle.network.specs.declared.kinds.NodeKind.TheVariants as node
use Rattle.network.specs.Arcs.{CityArc, access_arcs, egress_arcs, free_arc, node_in, walk_arc, walk_arcs}
use Rattle.network.specs.Conditions.{AreSources}
use Rattle.network.specs.Nodes.{nodes_of, number_of}
use Rattle.network.specs.Sources.{Sources, stop_count, walk_ticks, zone_count}
use Rattle.network.specs.StopWalks.{other_stops, walk_seconds, walk_to, walks_from}
use Rattle.network.specs.Towns.{HasNode}
use Rattle.network.proofs.KeyedLemmas.{all_flat}
use Rattle.network.proofs.NodeLemmas.{has_stop, node_stands}
use Rattle.scenarios.specs.declared.layer.Layer.{Layer}

-- an arc from a node, to another one, with a positive cost and a weight within its limit
pub record IsArcFrom (sources : Sources) (from : ℕ) (found : CityArc) : Type 0 where
  pub tail : found.arc.tail ≡ from
  pub head : found.arc.head < length (nodes_of sources)
  pub cost : 0 < found.arc.cost
  pub weight : is_some found.arc.weight ≡ true → 0 < unwrap_or found.arc.weight 0
  pub light : unwrap_or found.arc.weight 0 ≤ WEIGHT_LIMIT

pub number_within : (sources : Sources) (kind : NodeKind) → HasNode sources kind → number_of sources kind < length (nodes_of sources)
number_within sources kind there = slice_get_within (nodes_of sources) (number_of sources kind) kind (node_stands sources kind there)

pub free_fits : (sources : Sources) (kind : ArcKind) (from to : NodeKind) (cost : ℕ) → HasNode sources to → 0 < cost →
    IsArcFrom sources (number_of sources from) (free_arc sources kind from to cost)
free_fits sources kind from to cost there some = record {
  tail = refl;
  head = number_within sources to there;
  cost = some;
  weight = λ boards. absurd cc;
  light = omega arith;
}

walk_fits : (sources : Sources) (kind : ArcKind) (from to : NodeKind) (seconds : ℕ) → HasNode sources to → IsArcFrom sources (number_of sources from) (walk_arc sources kind from to seconds)
walk_fits sources kind from to seconds there = free_fits sources kind from to (walk_ticks sources seconds) there (omega arith)

-- where a test decides
pub where_true : (P : CityArc → Type 0) (test : Bool) (arcs : List CityArc) → (test ≡ true → All P arcs) → All P (if test then arcs else [])
where_true P true arcs h = h refl
where_true P false arcs h = All-nil P

pub where_false : (P : CityArc → Type 0) (test : Bool) (arcs : List CityArc) → All P arcs → All P (if test then [] else arcs)
where_false P true arcs h = All-nil P
where_false P false arcs h = h

-- ---- zones and stops

pub access_fits : (sources : Sources) (zone : ℕ) → AreSources sources → All (IsArcFrom sources (number_of sources (node.Origin zone))) (access_arcs sources zone)
access_fits sources zone ok =
    All-map (IsArcFrom sources (number_of sources (node.Origin zone))) (λ link. walk_arc sources arc.Access (node.Origin zone) (node.First link.stop) link.seconds)
    (filter (λ link. link.zone == zone) sources.zones.links)
    (All-filter (λ link. link.zone == zone)
    (λ link. IsArcFrom sources (number_of sources (node.Origin zone)) (walk_arc sources arc.Access (node.Origin zone) (node.First link.stop) link.seconds))
    sources.zones.links
    (All-weaker (IsLinkAmong (zone_count sources) (stop_count sources))
    (λ link. IsArcFrom sources (number_of sources (node.Origin zone)) (walk_arc sources arc.Access (node.Origin zone) (node.First link.stop) link.seconds))
    (λ link among. walk_fits sources arc.Access (node.Origin zone) (node.First link.stop) link.seconds among.stop)
    sources.zones.links ok.links))

pub egress_fits : (sources : Sources) (l : Layer) (stop : ℕ) → AreSources sources → All (IsArcFrom sources (number_of sources (node_in l stop))) (egress_arcs sources l stop)
egress_fits sources l stop ok =
    All-map (IsArcFrom sources (number_of sources (node_in l stop))) (λ link. walk_arc sources arc.Egress (node_in l stop) (node.Goal link.zone) link.seconds)
    (filter (λ link. link.stop == stop) sources.zones.links)
    (All-filter (λ link. link.stop == stop)
    (λ link. IsArcFrom sources (number_of sources (node_in l stop)) (walk_arc sources arc.Egress (node_in l stop) (node.Goal link.zone) link.seconds))
    sources.zones.links
    (All-weaker (IsLinkAmong (zone_count sources) (stop_count sources))
    (λ link. IsArcFrom sources (number_of sources (node_in l stop)) (walk_arc sources arc.Egress (node_in l stop) (node.Goal link.zone) link.seconds))
    (λ link among. walk_fits sources arc.Egress (node_in l stop) (node.Goal link.zone) link.seconds among.zone)
    sources.zones.links ok.links))

-- walks lead to stops of the feed
walk_leads : (stops from to : ℕ) (seconds : Option ℕ) → to < stops → All (λ (walk : WalkRow). walk.to < stops) (walk_to from to seconds)
walk_leads stops from to None lt = All-nil (λ (walk : WalkRow). walk.to < stops)
walk_leads stops from to (Some seconds) lt =
    All-cons (λ (walk : WalkRow). walk.to < stops) (record { from = from; to = to; seconds = seconds }) [] lt (All-nil (λ (walk : WalkRow). walk.to < stops))

pub walks_lead : (feed : FeedData) (walks : List WalkRow) (from : ℕ) → All (λ (walk : WalkRow). walk.to < length feed.stops) (walks_from feed walks from)
unfolding walks_from
walks_lead feed walks from =
    all_flat (λ (walk : WalkRow). walk.to < length feed.stops) (λ to. walk_to from to (walk_seconds feed walks from to)) (other_stops feed from)
    (λ k d lt.
    let within = (filter_keeps (λ other. not (other == from)) 0 (length feed.stops) k d lt).0 in
    walk_leads (length feed.stops) from (get_or (other_stops feed from) k d) (walk_seconds feed walks from (get_or (other_stops feed from) k d)) (omega arith))

pub walks_fit : (sources : Sources) (l : Layer) (stop : ℕ) → All (IsArcFrom sources (number_of sources (node_in l stop))) (walk_arcs sources l stop)
walks_fit sources l stop =
    All-map (IsArcFrom sources (number_of sources (node_in l stop))) (λ walk. walk_arc sources arc.Walk (node_in l stop) (node_in l walk.to) walk.seconds)
    (walks_from sources.feed sources.walks stop)
    (All-weaker (λ (walk : WalkRow). walk.to < stop_count sources)
    (λ walk. IsArcFrom sources (number_of sources (node_in l stop)) (walk_arc sources arc.Walk (node_in l stop) (node_in l walk.to) walk.seconds))
    (λ walk lt. walk_fits sources arc.Walk (node_in l stop) (node_in l walk.to) walk.seconds (has_stop sources l walk.to lt))
    (walks_from sources.feed sources.walks stop) (walks_lead sources.feed sources.walks stop))
