-- The arcs that leave each node of a city: where they lead, and that their costs and weights are positive.
use Rattle.std.proofs.Common.{ℕ, ◌+◌, ◌-◌, ◌<◌, ◌≤◌, [], ◌∷◌, ◌++◌, length, get_or, refl, arith}
use Rattle.std.specs.Prelude.{All, filter, flat_map, nat_lt, slice_index, slice_index_or}
use Rattle.std.specs.List.{range_with_len}
use Rattle.std.proofs.lemmas.Bool.{ltb-true}
use Rattle.std.proofs.lemmas.List.Elements.{All-append, All-cons, All-map, All-nil}
use Rattle.std.proofs.lemmas.List.FromFn.{get_or-range_with_len, length-range_with_len}
use Rattle.definitions.proofs.Spans.{filter_keeps}
use Rattle.definitions.specs.declared.limits.TheConstants.{WEIGHT_LIMIT}
use Rattle.headways.specs.Laws.{IsLineOf}
use Rattle.network.specs.declared.kinds.ArcKind.TheVariants as arc
use Rattle.network.specs.declared.kinds.NodeKind.{NodeKind}
use Rattle.network.specs.declared.kinds.NodeKind.TheVariants as node
use Rattle.network.specs.Arcs.{CityArc, alight_arcs, alights_at, arcs_from, board_arc, board_arcs, boardings_of, boards_at, dwell_arcs, egress_arcs, free_arc, no_place, node_in, place_at, ride_arc, stop_arcs, walk_arcs}
use Rattle.network.specs.Conditions.{AreSources}
use Rattle.network.specs.Nodes.{number_of, places_left}
use Rattle.network.specs.Sources.{Sources, kept_count, kept_line, kept_numbers, kept_weight, no_line, weight_in, zone_count}
use Rattle.network.specs.Towns.{HasNode, HasReach, HasSegment}
use Rattle.network.proofs.KeyedLemmas.{all_flat}
use Rattle.network.proofs.NodeLemmas.{segments}
use Rattle.scenarios.specs.declared.layer.Layer.{Layer}
use Rattle.scenarios.specs.declared.layer.Layer.TheVariants as layer
use Rattle.scenarios.specs.Scenarios.{is_closed}
use Rattle.network.proofs.FitLemmas.{IsArcFrom, access_fits, egress_fits, free_fits, number_within, walks_fit, where_false, where_true}

-- each kept line weighs no more than the limit
abbrev pub AreLight : Sources → Type 0
AreLight sources = All (λ number. weight_in sources number ≤ WEIGHT_LIMIT) (kept_numbers sources)

-- ---- kept lines

-- a kept line is one of the lines, and weighs something
pub record IsKept (sources : Sources) (kept : ℕ) : Type 0 where
  pub line : IsLineOf sources.feed (kept_line sources kept)
  pub weight : 0 < kept_weight sources kept
  pub light : kept_weight sources kept ≤ WEIGHT_LIMIT

pub kept_there : (sources : Sources) (kept : ℕ) → AreSources sources → AreLight sources → kept < kept_count sources → IsKept sources kept
unfolding kept_numbers
kept_there sources kept ok light lt =
    let found = filter_keeps (λ number. nat_lt 0 (weight_in sources number)) 0 (length sources.lines) kept 0 lt in
    let within = found.0 in
    record {
      line = ok.lines (slice_index_or (kept_numbers sources) kept 0) no_line (omega arith);
      weight = ltb-true 0 (kept_weight sources kept) found.1;
      light = light kept 0 lt;
    }

-- the two nodes of a segment
segment_there : (sources : Sources) (kept place : ℕ) → kept < kept_count sources → place < segments sources kept → HasSegment sources kept place
segment_there sources kept place lt on = record { kept = lt; next = omega arith }

reach_there : (sources : Sources) (kept place : ℕ) → kept < kept_count sources → place < segments sources kept → HasReach sources kept (place + 1)
reach_there sources kept place lt on = record { kept = lt; later = omega arith; within = omega arith }

boarding_fits : (sources : Sources) (l : Layer) (stop kept place : ℕ) → IsKept sources kept → kept < kept_count sources → place < segments sources kept →
    IsArcFrom sources (number_of sources (node_in l stop)) (board_arc sources l stop kept place)
boarding_fits sources l stop kept place line lt on = record {
  tail = refl;
  head = number_within sources (node.Leave kept place) (segment_there sources kept place lt on);
  cost = omega arith;
  weight = λ boards. line.weight;
  light = line.light;
}

boardings_fit : (sources : Sources) (l : Layer) (stop kept : ℕ) → IsKept sources kept → kept < kept_count sources →
    All (IsArcFrom sources (number_of sources (node_in l stop))) (boardings_of sources l stop kept)
boardings_fit sources l stop kept line lt =
    All-map (IsArcFrom sources (number_of sources (node_in l stop))) (board_arc sources l stop kept) (filter (boards_at sources stop kept) (places_left sources kept))
    (λ k d on.
    let within = (filter_keeps (boards_at sources stop kept) 0 (segments sources kept) k d on).0 in
    boarding_fits sources l stop kept (get_or (filter (boards_at sources stop kept) (places_left sources kept)) k d) line lt (omega arith))

boards_fit : (sources : Sources) (l : Layer) (stop : ℕ) → AreSources sources → AreLight sources → All (IsArcFrom sources (number_of sources (node_in l stop))) (board_arcs sources l stop)
boards_fit sources l stop ok light =
    where_false (IsArcFrom sources (number_of sources (node_in l stop))) (is_closed sources.scenario stop) (flat_map (boardings_of sources l stop) (range_with_len 0 (kept_count sources)))
    (all_flat (IsArcFrom sources (number_of sources (node_in l stop))) (boardings_of sources l stop) (range_with_len 0 (kept_count sources))
    (λ k d on.
    let size = length-range_with_len 0 (kept_count sources) in
    let at = get_or-range_with_len 0 (kept_count sources) k d (omega arith) in
    let lt : get_or (range_with_len 0 (kept_count sources)) k d < kept_count sources = omega arith in
    boardings_fit sources l stop (get_or (range_with_len 0 (kept_count sources)) k d) (kept_there sources (get_or (range_with_len 0 (kept_count sources)) k d) ok light lt) lt))

stops_fit : (sources : Sources) (l : Layer) (stop : ℕ) → AreSources sources → AreLight sources → All (IsArcFrom sources (number_of sources (node_in l stop))) (stop_arcs sources l stop)
stops_fit sources l stop ok light =
    All-append (IsArcFrom sources (number_of sources (node_in l stop))) (egress_arcs sources l stop ++ walk_arcs sources l stop) (board_arcs sources l stop)
    (All-append (IsArcFrom sources (number_of sources (node_in l stop))) (egress_arcs sources l stop) (walk_arcs sources l stop) (egress_fits sources l stop ok) (walks_fit sources l stop))
    (boards_fit sources l stop ok light)

-- what holds of an arc holds of it alone
pub one_fits : (P : CityArc → Type 0) (found : CityArc) → P found → All P (found ∷ [])
one_fits P found h = All-cons P found [] h (All-nil P)

ride_fits : (sources : Sources) (kept place : ℕ) → IsKept sources kept → kept < kept_count sources → place < segments sources kept →
    IsArcFrom sources (number_of sources (node.Leave kept place)) (ride_arc sources kept place)
ride_fits sources kept place line lt on =
    let rides = line.line.ride_per_pair in
    let some = (line.line.rides place 0 (omega arith)).0 in
    free_fits sources arc.Ride (node.Leave kept place) (node.Reach kept (place + 1)) (slice_index (kept_line sources kept).rides place)
    (reach_there sources kept place lt on) (omega arith)

dwells_fit : (sources : Sources) (kept place : ℕ) → IsKept sources kept → kept < kept_count sources → 0 < place → place ≤ segments sources kept →
    All (IsArcFrom sources (number_of sources (node.Reach kept place))) (dwell_arcs sources kept place)
dwells_fit sources kept place line lt some most =
    where_true (IsArcFrom sources (number_of sources (node.Reach kept place))) (nat_lt (place + 1) (length (kept_line sources kept).places))
    (free_arc sources arc.Dwell (node.Reach kept place) (node.Leave kept place) (slice_index (kept_line sources kept).dwells (place - 1)) ∷ [])
    (λ test.
    let on = ltb-true (place + 1) (length (kept_line sources kept).places) test in
    let dwells = line.line.dwell_per_stop in
    let cost = (line.line.dwells (place - 1) 0 (omega arith)).0 in
    one_fits (IsArcFrom sources (number_of sources (node.Reach kept place)))
    (free_arc sources arc.Dwell (node.Reach kept place) (node.Leave kept place) (slice_index (kept_line sources kept).dwells (place - 1)))
    (free_fits sources arc.Dwell (node.Reach kept place) (node.Leave kept place) (slice_index (kept_line sources kept).dwells (place - 1))
    (segment_there sources kept place lt (omega arith)) (omega arith)))

alights_fit : (sources : Sources) (kept place : ℕ) → IsKept sources kept → place ≤ segments sources kept →
    All (IsArcFrom sources (number_of sources (node.Reach kept place))) (alight_arcs sources kept place)
alights_fit sources kept place line most =
    let two = line.line.two in
    where_true (IsArcFrom sources (number_of sources (node.Reach kept place))) (alights_at sources kept place)
    (free_arc sources arc.Alight (node.Reach kept place) (node.Later (place_at sources kept place).stop) 1 ∷ [])
    (λ test.
    one_fits (IsArcFrom sources (number_of sources (node.Reach kept place))) (free_arc sources arc.Alight (node.Reach kept place) (node.Later (place_at sources kept place).stop) 1)
    (free_fits sources arc.Alight (node.Reach kept place) (node.Later (place_at sources kept place).stop) 1 (line.line.stops place no_place (omega arith)) (omega arith)))

-- ---- all nodes

pub arcs_fit : (sources : Sources) (kind : NodeKind) → AreSources sources → AreLight sources → HasNode sources kind → All (IsArcFrom sources (number_of sources kind)) (arcs_from sources kind)
arcs_fit sources (node.Origin zone) ok light h = access_fits sources zone ok
arcs_fit sources (node.Goal zone) ok light h = All-nil (IsArcFrom sources (zone_count sources + zone))
arcs_fit sources (node.First stop) ok light h = stops_fit sources layer.First stop ok light
arcs_fit sources (node.Later stop) ok light h = stops_fit sources layer.Later stop ok light
arcs_fit sources (node.Leave kept place) ok light h =
    let next = h.next in
    one_fits (IsArcFrom sources (number_of sources (node.Leave kept place))) (ride_arc sources kept place)
    (ride_fits sources kept place (kept_there sources kept ok light h.kept) h.kept (omega arith))
arcs_fit sources (node.Reach kept place) ok light h =
    let within = h.within in
    All-append (IsArcFrom sources (number_of sources (node.Reach kept place))) (dwell_arcs sources kept place) (alight_arcs sources kept place)
    (dwells_fit sources kept place (kept_there sources kept ok light h.kept) h.kept h.later (omega arith))
    (alights_fit sources kept place (kept_there sources kept ok light h.kept) (omega arith))
