-- The nodes of a city: how many there are, and that each one stands at its number.
use Rattle.std.proofs.Common.{◌≡◌, ℕ, zero, suc, ◌+◌, ◌*◌, ◌-◌, ◌<◌, List, ◌++◌, Some, length, refl, subst, ◌∙◌, arith}
use Rattle.std.specs.Prelude.{flat_map, map, slice_get}
use Rattle.std.specs.List.{range_with_len}
use Rattle.std.proofs.lemmas.List.{length-append}
use Rattle.std.proofs.lemmas.List.Concat.{length-flat_map}
use Rattle.std.proofs.lemmas.List.FromFn.{length-map-range_with_len}
use Rattle.network.specs.declared.kinds.NodeKind.{NodeKind}
use Rattle.network.specs.declared.kinds.NodeKind.TheVariants as node
use Rattle.network.specs.Arcs.{node_in}
use Rattle.network.specs.Nodes.{first_node, line_nodes, nodes_before, nodes_of, number_of, places_left, segment_nodes, stop_nodes}
use Rattle.network.specs.Sources.{Sources, kept_count, kept_line, stop_count, zone_count}
use Rattle.network.specs.Towns.{HasNode}
use Rattle.network.proofs.StandLemmas.{at_left, at_right, gathered, mapped, same_lengths}
use Rattle.scenarios.specs.declared.layer.Layer.{Layer}
use Rattle.scenarios.specs.declared.layer.Layer.TheVariants as layer

-- how many segments a kept line has: from each place to the next
abbrev pub segments : Sources → ℕ → ℕ
segments sources kept = length (kept_line sources kept).places - 1

-- the nodes of a stop
pub has_stop : (sources : Sources) (l : Layer) (stop : ℕ) → stop < stop_count sources → HasNode sources (node_in l stop)
has_stop sources layer.First stop lt = lt
has_stop sources layer.Later stop lt = lt

-- ---- the parts of the nodes

abbrev pub origins : Sources → List NodeKind
origins sources = map node.Origin (range_with_len 0 (zone_count sources))

abbrev pub goals : Sources → List NodeKind
goals sources = map node.Goal (range_with_len 0 (zone_count sources))

abbrev pub stops : Sources → List NodeKind
stops sources = flat_map stop_nodes (range_with_len 0 (stop_count sources))

abbrev pub lines : Sources → List NodeKind
lines sources = flat_map (line_nodes sources) (range_with_len 0 (kept_count sources))

pub nodes_are : (sources : Sources) → nodes_of sources ≡ origins sources ++ goals sources ++ stops sources ++ lines sources
unfolding nodes_of
nodes_are sources = refl

pub origins_size : (sources : Sources) → length (origins sources) ≡ zone_count sources
origins_size sources = length-map-range_with_len node.Origin 0 (zone_count sources)

pub goals_size : (sources : Sources) → length (goals sources) ≡ zone_count sources
goals_size sources = length-map-range_with_len node.Goal 0 (zone_count sources)

stops_size : (sources : Sources) → length (stops sources) ≡ 2 * stop_count sources
stops_size sources = length-flat_map stop_nodes (range_with_len 0 (stop_count sources)) ∙ same_lengths stop_nodes 2 0 (stop_count sources) (λ stop. refl)

-- how many nodes a kept line has
pub line_size : (sources : Sources) (kept : ℕ) → length (line_nodes sources kept) ≡ 2 * segments sources kept
line_size sources kept = length-flat_map (segment_nodes kept) (places_left sources kept) ∙ same_lengths (segment_nodes kept) 2 0 (segments sources kept) (λ place. refl)

-- how many nodes stand before those of the lines
pub front_size : (sources : Sources) → length (origins sources ++ goals sources ++ stops sources) ≡ 2 * zone_count sources + 2 * stop_count sources
front_size sources =
    let all = length-append (origins sources ++ goals sources) (stops sources) in
    let zones = length-append (origins sources) (goals sources) in
    omega (arith, origins_size sources, goals_size sources, stops_size sources)

-- how many nodes there are: two for each zone, two for each stop, and those of the lines
pub node_count : (sources : Sources) → length (nodes_of sources) ≡ first_node sources (kept_count sources)
node_count sources =
    let all = length-append (origins sources ++ goals sources ++ stops sources) (lines sources) in
    let count = length-flat_map (line_nodes sources) (range_with_len 0 (kept_count sources)) in
    let front = front_size sources in
    rw (nodes_are sources) (omega arith)

-- ---- each node stands at its number

origin_stands : (sources : Sources) (zone : ℕ) → zone < zone_count sources → slice_get (nodes_of sources) zone ≡ Some (node.Origin zone)
origin_stands sources zone lt =
    let z : 0 + zone ≡ zone = omega arith in
    let here : slice_get (origins sources) zone ≡ Some (node.Origin zone) = rw z at (mapped node.Origin 0 (zone_count sources) zone lt) in
    rw (nodes_are sources)
    (at_left (origins sources ++ goals sources ++ stops sources) (lines sources) zone (node.Origin zone)
    (at_left (origins sources ++ goals sources) (stops sources) zone (node.Origin zone)
    (at_left (origins sources) (goals sources) zone (node.Origin zone) here)))

goal_stands : (sources : Sources) (zone : ℕ) → zone < zone_count sources → slice_get (nodes_of sources) (zone_count sources + zone) ≡ Some (node.Goal zone)
goal_stands sources zone lt =
    let z : 0 + zone ≡ zone = omega arith in
    let here : slice_get (goals sources) zone ≡ Some (node.Goal zone) = rw z at (mapped node.Goal 0 (zone_count sources) zone lt) in
    let size = origins_size sources in
    rw (nodes_are sources)
    (at_left (origins sources ++ goals sources ++ stops sources) (lines sources) (zone_count sources + zone) (node.Goal zone)
    (at_left (origins sources ++ goals sources) (stops sources) (zone_count sources + zone) (node.Goal zone)
    (at_right (origins sources) (goals sources) (zone_count sources + zone) zone (omega arith) ∙ here)))

-- the node of a stop at a place of its two
stop_stands : (sources : Sources) (stop rest place : ℕ) (kind : NodeKind) → stop < stop_count sources → slice_get (stop_nodes stop) rest ≡ Some kind →
    place ≡ 2 * zone_count sources + 2 * stop + rest → slice_get (nodes_of sources) place ≡ Some kind
stop_stands sources stop rest place kind lt h e =
    let z : stop ≡ 0 + stop = omega arith in
    let At : ℕ → Type 0 = λ s. slice_get (stop_nodes s) rest ≡ Some kind in
    let before = same_lengths stop_nodes 2 0 stop (λ s. refl) in
    let here : slice_get (stops sources) (2 * stop + rest) ≡ Some kind =
    gathered stop_nodes 0 (stop_count sources) stop rest (2 * stop + rest) kind lt (subst At z h) (omega arith) in
    let zones = length-append (origins sources) (goals sources) in
    let size = origins_size sources in
    let more = goals_size sources in
    rw (nodes_are sources)
    (at_left (origins sources ++ goals sources ++ stops sources) (lines sources) place kind
    (at_right (origins sources ++ goals sources) (stops sources) place (2 * stop + rest) (omega arith) ∙ here))

-- the node of a kept line at a place of the two of a segment
segment_stands : (sources : Sources) (kept segment rest place : ℕ) (kind : NodeKind) → kept < kept_count sources → segment < segments sources kept →
    slice_get (segment_nodes kept segment) rest ≡ Some kind → place ≡ first_node sources kept + 2 * segment + rest → slice_get (nodes_of sources) place ≡ Some kind
segment_stands sources kept segment rest place kind lt on h e =
    let z : segment ≡ 0 + segment = omega arith in
    let At : ℕ → Type 0 = λ w. slice_get (segment_nodes kept w) rest ≡ Some kind in
    let y : 0 + kept ≡ kept = omega arith in
    let before = same_lengths (segment_nodes kept) 2 0 segment (λ place. refl) in
    let line : slice_get (line_nodes sources kept) (2 * segment + rest) ≡ Some kind =
    gathered (segment_nodes kept) 0 (segments sources kept) segment rest (2 * segment + rest) kind on (subst At z h) (omega arith) in
    let here : slice_get (lines sources) (nodes_before sources kept + (2 * segment + rest)) ≡ Some kind =
    gathered (line_nodes sources) 0 (kept_count sources) kept (2 * segment + rest) (nodes_before sources kept + (2 * segment + rest)) kind lt (rw y line) refl in
    let front = front_size sources in
    rw (nodes_are sources)
    (at_right (origins sources ++ goals sources ++ stops sources) (lines sources) place (nodes_before sources kept + (2 * segment + rest)) (omega arith) ∙ here)

pub node_stands : (sources : Sources) (kind : NodeKind) → HasNode sources kind → slice_get (nodes_of sources) (number_of sources kind) ≡ Some kind
node_stands sources (node.Origin zone) h = origin_stands sources zone h
node_stands sources (node.Goal zone) h = goal_stands sources zone h
node_stands sources (node.First stop) h = stop_stands sources stop 0 (2 * zone_count sources + 2 * stop) (node.First stop) h refl (omega arith)
node_stands sources (node.Later stop) h = stop_stands sources stop 1 (2 * zone_count sources + 2 * stop + 1) (node.Later stop) h refl refl
node_stands sources (node.Leave kept place) h =
    let next = h.next in
    segment_stands sources kept place 0 (first_node sources kept + 2 * place) (node.Leave kept place) h.kept (omega arith) refl (omega arith)
node_stands sources (node.Reach kept zero) h = absurd (let some = h.later in omega arith)
node_stands sources (node.Reach kept (suc place)) h =
    let within = h.within in
    let z : place + 1 ≡ suc place = omega arith in
    segment_stands sources kept place 1 (first_node sources kept + 2 * suc place - 1) (node.Reach kept (suc place)) h.kept (omega arith) (rw z refl) (omega arith)
