-- All arcs of a city in three parts, and how many they are.
use Rattle.std.proofs.Common.{◌≡◌, ℕ, ◌+◌, ◌*◌, ◌<◌, ◌==◌, List, [], ◌∷◌, ◌++◌, length, map, refl, sym, ap, ◌∙◌, arith}
use Rattle.std.specs.Prelude.{All, filter, flat_map, sum_by}
use Rattle.std.specs.List.{AllByRecursion, range_with_len}
use Rattle.std.proofs.lemmas.Grind.{flat_map-append}
use Rattle.std.proofs.lemmas.List.{append-nil, append_assoc, length-append, length-map}
use Rattle.std.proofs.lemmas.List.Concat.{length-flat_map}
use Rattle.std.proofs.lemmas.List.Elements.{All-from_recursion, recursion_from_All}
use Rattle.std.proofs.lemmas.List.Folds.{flat_map-map}
use Rattle.std.proofs.lemmas.List.Sums.{sum_by-cons}
use Rattle.definitions.proofs.Sums.{sum_by-add, sum_by-same}
use Rattle.demand.specs.Laws.{IsLinkAmong}
use Rattle.demand.specs.declared.tables.WalkRow.{WalkRow}
use Rattle.demand.specs.declared.tables.ZoneLink.{ZoneLink}
use Rattle.network.specs.declared.boardings.Boarding.{Boarding}
use Rattle.network.specs.declared.kinds.NodeKind.TheVariants as node
use Rattle.network.specs.ArcParts.{line_arcs, line_part, segment_arcs, stop_node_arcs, stop_part, zone_part}
use Rattle.network.specs.Arcs.{access_arcs, arcs_from, arcs_of, board_arcs, egress_arcs, stop_arcs, walk_arcs}
use Rattle.network.specs.Boardings.{boardings_in}
use Rattle.network.specs.Conditions.{AreSources}
use Rattle.network.specs.Nodes.{line_nodes, nodes_of, places_left, segment_nodes, stop_nodes}
use Rattle.network.specs.Sources.{Sources, kept_count, stop_count, zone_count}
use Rattle.network.specs.StopWalks.{walks_by_stop, walks_from}
use Rattle.network.proofs.AccessLemmas.{access_of, egress_of, walk_of}
use Rattle.network.proofs.ArcListLemmas.{flat_map-none, flat_map-same, flat_map-twice, length-spread, spread}
use Rattle.network.proofs.BoardingLemmas.{board_of, boards-of, each-stop}
use Rattle.network.proofs.PlaceLemmas.{all-map}
use Rattle.scenarios.specs.declared.layer.Layer.{Layer}
use Rattle.scenarios.specs.declared.layer.Layer.TheVariants as layer

-- ---- the three parts

four : {A B : Type 0} (f : A → List B) (ws xs ys zs : List A) → flat_map f (ws ++ xs ++ ys ++ zs) ≡ ((flat_map f ws ++ flat_map f xs) ++ flat_map f ys) ++ flat_map f zs
four f ws xs ys zs = rw (flat_map-append f (ws ++ xs ++ ys) zs, flat_map-append f (ws ++ xs) ys, flat_map-append f ws xs) refl

line-is : (sources : Sources) (line : ℕ) → flat_map (arcs_from sources) (line_nodes sources line) ≡ line_arcs sources line
line-is sources line =
    flat_map-twice (arcs_from sources) (segment_nodes line) (places_left sources line)
    ∙ flat_map-same _ (segment_arcs sources line) (places_left sources line) (λ place. ap (λ l. arcs_from sources (node.Leave line place) ++ l) (append-nil (arcs_from sources (node.Reach line (place + 1)))))

pub arcs-parts : (sources : Sources) → arcs_of sources ≡ zone_part sources ++ (stop_part sources ++ line_part sources)
unfolding arcs_of nodes_of zone_part stop_part line_part
arcs-parts sources =
    let zones = range_with_len 0 (zone_count sources) in
    let stops = range_with_len 0 (stop_count sources) in
    let lines = range_with_len 0 (kept_count sources) in
    let one : flat_map (arcs_from sources) (map node.Origin zones) ≡ flat_map (access_arcs sources) zones = flat_map-map (arcs_from sources) node.Origin zones in
    let two : flat_map (arcs_from sources) (map node.Goal zones) ≡ [] = flat_map-map (arcs_from sources) node.Goal zones ∙ flat_map-none _ zones (λ zone. refl) in
    let three : flat_map (arcs_from sources) (flat_map stop_nodes stops) ≡ flat_map (stop_node_arcs sources) stops =
    flat_map-twice (arcs_from sources) stop_nodes stops
    ∙ flat_map-same _ (stop_node_arcs sources) stops (λ stop. ap (λ l. arcs_from sources (node.First stop) ++ l) (append-nil (arcs_from sources (node.Later stop)))) in
    let last : flat_map (arcs_from sources) (flat_map (line_nodes sources) lines) ≡ flat_map (line_arcs sources) lines =
    flat_map-twice (arcs_from sources) (line_nodes sources) lines ∙ flat_map-same _ (line_arcs sources) lines (line-is sources) in
    four (arcs_from sources) (map node.Origin zones) (map node.Goal zones) (flat_map stop_nodes stops) (flat_map (line_nodes sources) lines)
    ∙ rw (one, two, three, last, append-nil (flat_map (access_arcs sources) zones)) (append_assoc (flat_map (access_arcs sources) zones) (flat_map (stop_node_arcs sources) stops) (flat_map (line_arcs sources) lines))

-- ---- how many there are

sum-map : {A B : Type 0} (f : B → ℕ) (g : A → B) (xs : List A) → sum_by f (map g xs) ≡ sum_by (λ x. f (g x)) xs
sum-map f g [] = refl
sum-map f g (x ∷ xs) = sum_by-cons f (g x) (map g xs) ∙ ap (λ n. f (g x) + n) (sum-map f g xs) ∙ sym (sum_by-cons (λ y. f (g y)) x xs)

all-weaker : {A : Type 0} (P Q : A → Type 0) (xs : List A) → ((x : A) → P x → Q x) → AllByRecursion P xs → AllByRecursion Q xs
all-weaker P Q [] weaker all = tt
all-weaker P Q (x ∷ xs) weaker all = (weaker x all.0, all-weaker P Q xs weaker all.1)

zone-length : (sources : Sources) → AreSources sources → length (zone_part sources) ≡ length sources.zones.links
unfolding zone_part
zone-length sources laws =
    length-spread (λ (link : ZoneLink). link.zone) (access_of sources) (zone_count sources) sources.zones.links
    (all-weaker (IsLinkAmong (zone_count sources) (stop_count sources)) (λ (link : ZoneLink). link.zone < zone_count sources) sources.zones.links (λ link h. h.zone) (recursion_from_All (IsLinkAmong (zone_count sources) (stop_count sources)) sources.zones.links laws.links))

egress-sum : (sources : Sources) (layer : Layer) → AreSources sources → sum_by (λ stop. length (egress_arcs sources layer stop)) (range_with_len 0 (stop_count sources)) ≡ length sources.zones.links
egress-sum sources layer laws =
    sym (length-flat_map (egress_arcs sources layer) (range_with_len 0 (stop_count sources)))
    ∙ length-spread (λ (link : ZoneLink). link.stop) (egress_of sources layer) (stop_count sources) sources.zones.links
    (all-weaker (IsLinkAmong (zone_count sources) (stop_count sources)) (λ (link : ZoneLink). link.stop < stop_count sources) sources.zones.links (λ link h. h.stop) (recursion_from_All (IsLinkAmong (zone_count sources) (stop_count sources)) sources.zones.links laws.links))

walk-sum : (sources : Sources) (layer : Layer) → sum_by (λ stop. length (walk_arcs sources layer stop)) (range_with_len 0 (stop_count sources)) ≡ sum_by (λ walks. length walks) (walks_by_stop sources.feed sources.walks)
walk-sum sources layer =
    sum_by-same (λ stop. length (walk_arcs sources layer stop)) (λ stop. length (walks_from sources.feed sources.walks stop)) (range_with_len 0 (stop_count sources))
    (λ stop. length-map (walks_from sources.feed sources.walks stop) (walk_of sources layer stop))
    ∙ sym (sum-map (λ (walks : List WalkRow). length walks) (walks_from sources.feed sources.walks) (range_with_len 0 (stop_count sources)))

board-sum : (sources : Sources) (layer : Layer) → AreSources sources → sum_by (λ stop. length (board_arcs sources layer stop)) (range_with_len 0 (stop_count sources)) ≡ length (boardings_in sources)
board-sum sources layer laws =
    sum_by-same (λ stop. length (board_arcs sources layer stop)) (λ stop. length (filter (λ (boarding : Boarding). boarding.stop == stop) (boardings_in sources))) (range_with_len 0 (stop_count sources))
    (λ stop. ap length (sym (boards-of sources layer stop)) ∙ length-map (filter (λ (boarding : Boarding). boarding.stop == stop) (boardings_in sources)) (board_of sources layer stop))
    ∙ spread (λ (boarding : Boarding). boarding.stop) (stop_count sources) (boardings_in sources) (each-stop sources laws)

layer-sum : (sources : Sources) (layer : Layer) → AreSources sources → sum_by (λ stop. length (stop_arcs sources layer stop)) (range_with_len 0 (stop_count sources))
    ≡ length sources.zones.links + sum_by (λ walks. length walks) (walks_by_stop sources.feed sources.walks) + length (boardings_in sources)
layer-sum sources layer laws =
    sum_by-same (λ stop. length (stop_arcs sources layer stop)) (λ stop. length (egress_arcs sources layer stop) + length (walk_arcs sources layer stop) + length (board_arcs sources layer stop)) (range_with_len 0 (stop_count sources))
    (λ stop. length-append (egress_arcs sources layer stop ++ walk_arcs sources layer stop) (board_arcs sources layer stop) ∙ ap (λ n. n + length (board_arcs sources layer stop)) (length-append (egress_arcs sources layer stop) (walk_arcs sources layer stop)))
    ∙ sum_by-add (λ stop. length (egress_arcs sources layer stop) + length (walk_arcs sources layer stop)) (λ stop. length (board_arcs sources layer stop)) (range_with_len 0 (stop_count sources))
    ∙ ap (λ n. n + sum_by (λ stop. length (board_arcs sources layer stop)) (range_with_len 0 (stop_count sources))) (sum_by-add (λ stop. length (egress_arcs sources layer stop)) (λ stop. length (walk_arcs sources layer stop)) (range_with_len 0 (stop_count sources)))
    ∙ rw (egress-sum sources layer laws, walk-sum sources layer, board-sum sources layer laws) refl

stop-length : (sources : Sources) → AreSources sources → length (stop_part sources)
    ≡ 2 * length sources.zones.links + 2 * sum_by (λ walks. length walks) (walks_by_stop sources.feed sources.walks) + 2 * length (boardings_in sources)
unfolding stop_part
stop-length sources laws =
    let all = length-flat_map (stop_node_arcs sources) (range_with_len 0 (stop_count sources)) in
    let each = sum_by-same (λ stop. length (stop_node_arcs sources stop)) (λ stop. length (stop_arcs sources layer.First stop) + length (stop_arcs sources layer.Later stop)) (range_with_len 0 (stop_count sources))
    (λ stop. length-append (stop_arcs sources layer.First stop) (stop_arcs sources layer.Later stop)) in
    let both = sum_by-add (λ stop. length (stop_arcs sources layer.First stop)) (λ stop. length (stop_arcs sources layer.Later stop)) (range_with_len 0 (stop_count sources)) in
    omega (arith, all, each, both, layer-sum sources layer.First laws, layer-sum sources layer.Later laws)

-- the zones and the stops of links are among all
pub zone-keys : (sources : Sources) (keys : List ℕ) → AreSources sources → keys ≡ map (λ link. link.zone) sources.zones.links → All (λ key. key < zone_count sources) keys
zone-keys sources keys laws are =
    rw are (All-from_recursion (λ (key : ℕ). key < zone_count sources) (map (λ link. link.zone) sources.zones.links)
    (all-map (λ (key : ℕ). key < zone_count sources) (IsLinkAmong (zone_count sources) (stop_count sources)) (λ link. link.zone) sources.zones.links (λ link h. h.zone) (recursion_from_All (IsLinkAmong (zone_count sources) (stop_count sources)) sources.zones.links laws.links)))

pub stop-keys : (sources : Sources) (keys : List ℕ) → AreSources sources → keys ≡ map (λ link. link.stop) sources.zones.links → All (λ key. key < stop_count sources) keys
stop-keys sources keys laws are =
    rw are (All-from_recursion (λ (key : ℕ). key < stop_count sources) (map (λ link. link.stop) sources.zones.links)
    (all-map (λ (key : ℕ). key < stop_count sources) (IsLinkAmong (zone_count sources) (stop_count sources)) (λ link. link.stop) sources.zones.links (λ link h. h.stop) (recursion_from_All (IsLinkAmong (zone_count sources) (stop_count sources)) sources.zones.links laws.links)))

pub arcs-length : (sources : Sources) → AreSources sources → length (arcs_of sources)
    ≡ 3 * length sources.zones.links + 2 * sum_by (λ walks. length walks) (walks_by_stop sources.feed sources.walks) + 2 * length (boardings_in sources) + length (line_part sources)
arcs-length sources laws =
    let parts = ap length (arcs-parts sources) in
    let one = length-append (zone_part sources) (stop_part sources ++ line_part sources) in
    let two = length-append (stop_part sources) (line_part sources) in
    omega (arith, parts, one, two, zone-length sources laws, stop-length sources laws)
