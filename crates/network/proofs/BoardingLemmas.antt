-- The boardings of kept lines, and those from one stop.
use Rattle.std.proofs.Common.{◌≡◌, ℕ, ◌+◌, ◌-◌, ◌<◌, ◌==◌, Bool, true, false, List, [], ◌∷◌, Some, length, map, get_or, refl, sym, ap, ◌∙◌, inl, inr, arith}
use Rattle.std.specs.Prelude.{◌&&◌, All, filter, flat_map, not}
use Rattle.std.specs.List.{AllByRecursion, range_with_len}
use Rattle.std.proofs.lemmas.Bool.{cases_Bool}
use Rattle.std.proofs.lemmas.Bool.Decides.{eqb_tells}
use Rattle.std.proofs.lemmas.List.Elements.{All-from_recursion}
use Rattle.std.proofs.lemmas.List.FromFn.{get_or-map-range_with_len, length-map-range_with_len}
use Rattle.std.proofs.lemmas.Simd.{map-map}
use Rattle.network.specs.declared.boardings.Boarding.{Boarding}
use Rattle.network.specs.declared.boardings.Fares.{Fares}
use Rattle.network.specs.declared.kinds.ArcKind.{ArcKind}
use Rattle.network.specs.declared.kinds.NodeKind.TheVariants as node
use Rattle.network.specs.Adding.{arc_with}
use Rattle.network.specs.Arcs.{CityArc, board_arc, board_arcs, boarding_in, boardings_of, boards_at, no_place, node_in, place_at}
use Rattle.network.specs.Boardings.{boarding_at, boardings_in, fare_in, fares_at, fares_in, is_boarded, line_boardings}
use Rattle.network.specs.Conditions.{AreSources}
use Rattle.network.specs.Nodes.{number_of, places_left}
use Rattle.network.specs.Sources.{Sources, kept_count, kept_line, kept_weight, stop_count}
use Rattle.network.specs.Towns.{HasSegment}
use Rattle.network.proofs.ArcListLemmas.{filter-flat_map, filter-map, filter-none, filter-same, filter-twice, flat_map-none, flat_map-same, map-flat_map}
use Rattle.network.proofs.PlaceLemmas.{all-at, all-flat_map, all-map, filter-below, range-below}
use Rattle.network.proofs.TownLemmas.{line-law}
use Rattle.scenarios.specs.declared.layer.Layer.{Layer}
use Rattle.scenarios.specs.declared.layer.Layer.TheVariants as layer
use Rattle.scenarios.specs.Scenarios.{is_closed, ticks_of}

-- ---- what holds of each boarding

-- a boarding of a kept line at a place that the line leaves
pub record IsBoardingOf (sources : Sources) (boarding : Boarding) : Type 0 where
  pub segment : HasSegment sources boarding.line boarding.place
  pub stop_is : boarding.stop ≡ (place_at sources boarding.line boarding.place).stop

line-boardings : (sources : Sources) (line : ℕ) → line < 0 + kept_count sources → AllByRecursion (IsBoardingOf sources) (line_boardings sources line)
line-boardings sources line lt =
    all-map (IsBoardingOf sources) (λ (place : ℕ). place < 0 + (length (kept_line sources line).places - 1)) (boarding_at sources line) (filter (is_boarded sources line) (places_left sources line))
    (λ place below. record { segment = record { kept = omega arith; next = omega arith }; stop_is = refl })
    (filter-below (is_boarded sources line) 0 (length (kept_line sources line).places - 1))

pub boardings-law : (sources : Sources) → AllByRecursion (IsBoardingOf sources) (boardings_in sources)
unfolding boardings_in
boardings-law sources =
    all-flat_map (IsBoardingOf sources) (λ (line : ℕ). line < 0 + kept_count sources) (line_boardings sources) (range_with_len 0 (kept_count sources)) (line-boardings sources) (range-below 0 (kept_count sources))

pub boarding-segment : (sources : Sources) (list : List Boarding) (place : ℕ) (d : Boarding) → list ≡ boardings_in sources → place < length (boardings_in sources) → HasSegment sources (get_or list place d).line (get_or list place d).place
boarding-segment sources list place d are lt = rw are (all-at (IsBoardingOf sources) (boardings_in sources) place d (boardings-law sources) lt).segment

stop-below : (sources : Sources) (boarding : Boarding) → AreSources sources → IsBoardingOf sources boarding → boarding.stop < stop_count sources
stop-below sources boarding laws is =
    let segment = is.segment in
    let next : boarding.place + 1 < length (kept_line sources boarding.line).places = segment.next in
    let law = line-law sources boarding.line laws segment.kept in
    rw is.stop_is (law.stops boarding.place no_place (omega arith))

stops-below : (sources : Sources) (list : List Boarding) → AreSources sources → AllByRecursion (IsBoardingOf sources) list → AllByRecursion (λ (boarding : Boarding). boarding.stop < stop_count sources) list
stops-below sources [] laws all = tt
stops-below sources (boarding ∷ list) laws all = (stop-below sources boarding laws all.0, stops-below sources list laws all.1)

pub each-stop : (sources : Sources) → AreSources sources → AllByRecursion (λ (boarding : Boarding). boarding.stop < stop_count sources) (boardings_in sources)
each-stop sources laws = stops-below sources (boardings_in sources) laws (boardings-law sources)

pub keys-below : (sources : Sources) (keys : List ℕ) → AreSources sources → keys ≡ map (λ boarding. boarding.stop) (boardings_in sources) → All (λ key. key < stop_count sources) keys
keys-below sources keys laws are =
    let all = all-map (λ (key : ℕ). key < stop_count sources) (λ (boarding : Boarding). boarding.stop < stop_count sources) (λ boarding. boarding.stop) (boardings_in sources) (λ boarding lt. lt) (each-stop sources laws) in
    rw are (All-from_recursion (λ (key : ℕ). key < stop_count sources) (map (λ boarding. boarding.stop) (boardings_in sources)) all)

-- ---- the boardings from a stop

and-false : (b : Bool) → (b && false) ≡ false
and-false true = refl
and-false false = refl

closed-none : (closed : ℕ → Bool) (p : Bool) (s stop : ℕ) → closed stop ≡ true → ((p && not (closed s)) && (s == stop)) ≡ false
closed-none closed false s stop h = refl
closed-none closed true s stop h = elim (eqb_tells s stop) [
  | inl w ↦ let same : closed s ≡ true = ap closed w.1 ∙ h in rw same refl
  | inr w ↦ rw w.0 (and-false (not (closed s)))
]

open-same : (closed : ℕ → Bool) (p : Bool) (s stop : ℕ) → closed stop ≡ false → ((p && not (closed s)) && (s == stop)) ≡ ((s == stop) && p)
open-same closed false s stop h = sym (and-false (s == stop))
open-same closed true s stop h = elim (eqb_tells s stop) [
  | inl w ↦ let same : closed s ≡ false = ap closed w.1 ∙ h in rw (same, w.0) refl
  | inr w ↦ rw w.0 (and-false (not (closed s)))
]

-- the arc of a boarding from a stop in a layer
abbrev pub board_of : Sources → Layer → ℕ → Boarding → CityArc
board_of sources layer stop boarding = board_arc sources layer stop boarding.line boarding.place

line-boards : (sources : Sources) (layer : Layer) (stop line : ℕ)
    → map (board_of sources layer stop) (filter (λ boarding. boarding.stop == stop) (line_boardings sources line))
    ≡ map (board_arc sources layer stop line) (filter (λ place. is_boarded sources line place && ((place_at sources line place).stop == stop)) (places_left sources line))
line-boards sources layer stop line =
    ap (map (board_of sources layer stop)) (filter-map (λ (boarding : Boarding). boarding.stop == stop) (boarding_at sources line) (filter (is_boarded sources line) (places_left sources line)))
    ∙ map-map (board_of sources layer stop) (boarding_at sources line) (filter (λ place. (place_at sources line place).stop == stop) (filter (is_boarded sources line) (places_left sources line)))
    ∙ ap (map (board_arc sources layer stop line)) (filter-twice (λ place. (place_at sources line place).stop == stop) (is_boarded sources line) (places_left sources line))

boards-lines : (sources : Sources) (layer : Layer) (stop : ℕ)
    → map (board_of sources layer stop) (filter (λ boarding. boarding.stop == stop) (boardings_in sources))
    ≡ flat_map (λ line. map (board_arc sources layer stop line) (filter (λ place. is_boarded sources line place && ((place_at sources line place).stop == stop)) (places_left sources line))) (range_with_len 0 (kept_count sources))
unfolding boardings_in
boards-lines sources layer stop =
    ap (map (board_of sources layer stop)) (filter-flat_map (λ (boarding : Boarding). boarding.stop == stop) (line_boardings sources) (range_with_len 0 (kept_count sources)))
    ∙ map-flat_map (board_of sources layer stop) (λ line. filter (λ (boarding : Boarding). boarding.stop == stop) (line_boardings sources line)) (range_with_len 0 (kept_count sources))
    ∙ flat_map-same _ _ (range_with_len 0 (kept_count sources)) (line-boards sources layer stop)

pub boards-of : (sources : Sources) (layer : Layer) (stop : ℕ) → map (board_of sources layer stop) (filter (λ boarding. boarding.stop == stop) (boardings_in sources)) ≡ board_arcs sources layer stop
boards-of sources layer stop = boards-lines sources layer stop ∙ elim (cases_Bool (is_closed sources.scenario stop)) [
  | inl h ↦ rw h (flat_map-none _ (range_with_len 0 (kept_count sources))
      (λ line. ap (map (board_arc sources layer stop line)) (filter-none _ (places_left sources line) (λ place. closed-none (is_closed sources.scenario) (place_at sources line place).pickup (place_at sources line place).stop stop h))))
  | inr h ↦ rw h (flat_map-same _ (boardings_of sources layer stop) (range_with_len 0 (kept_count sources))
      (λ line. ap (map (board_arc sources layer stop line)) (filter-same _ (boards_at sources stop line) (places_left sources line) (λ place. open-same (is_closed sources.scenario) (place_at sources line place).pickup (place_at sources line place).stop stop h))))
]

-- ---- the arc of a boarding

-- what stands for a boarding, and for fares, where there are none
abbrev pub no_boarding : Boarding
no_boarding = record { line = 0; place = 0; stop = 0 }

abbrev pub no_fares : Fares
no_fares = record { first = 0; later = 0 }

fare-layer : (sources : Sources) (line : ℕ) (layer : Layer) → fare_in (fares_at sources line) layer ≡ ticks_of sources.scenario (kept_line sources line).route layer
fare-layer sources line layer.First = refl
fare-layer sources line layer.Later = refl

pub fare-is : (sources : Sources) (fares : List Fares) (line : ℕ) (layer : Layer) → fares ≡ fares_in sources → line < kept_count sources
    → fare_in (get_or fares line no_fares) layer ≡ ticks_of sources.scenario (kept_line sources line).route layer
fare-is sources fares line layer are lt =
    let found : get_or fares line no_fares ≡ fares_at sources line = rw are (get_or-map-range_with_len (fares_at sources) 0 (kept_count sources) line line no_fares lt (omega arith)) in
    ap (λ (f : Fares). fare_in f layer) found ∙ fare-layer sources line layer

pub fares-long : (sources : Sources) (fares : List Fares) (line : ℕ) → fares ≡ fares_in sources → line < kept_count sources → line < length fares
fares-long sources fares line are lt = rw are (rw (length-map-range_with_len (fares_at sources) 0 (kept_count sources)) lt)

pub board-is : (sources : Sources) (layer : Layer) (stop line place : ℕ) (kind : ArcKind) (tail head cost weight : ℕ)
    → kind ≡ boarding_in layer → tail ≡ number_of sources (node_in layer stop) → head ≡ number_of sources (node.Leave line place)
    → cost ≡ ticks_of sources.scenario (kept_line sources line).route layer → weight ≡ kept_weight sources line
    → arc_with kind tail head cost (Some weight) ∷ [] ≡ board_arc sources layer stop line place ∷ []
board-is sources level stop line place kind tail head cost weight e1 e2 e3 e4 e5 = rw (e1, e2, e3, e4, e5) refl

-- the arcs of the boardings at the places of a list
abbrev pub board_at : Sources → Layer → ℕ → ℕ → List CityArc
board_at sources layer stop place = board_of sources layer stop (get_or (boardings_in sources) place no_boarding) ∷ []
