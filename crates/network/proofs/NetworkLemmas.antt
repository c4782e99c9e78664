-- The network of a city without a fault keeps the rules of networks.
use Rattle.std.proofs.Common.{◌≡◌, ℕ, ◌+◌, ◌<◌, ◌≤◌, true, List, [], ◌++◌, length, get_or, sym, subst, arith}
use Rattle.std.specs.Prelude.{All, flat_map, is_some, unwrap_or}
use Rattle.std.proofs.lemmas.List.{get_or-map, length-map}
use Rattle.std.proofs.lemmas.List.Elements.{All-weaker}
use Rattle.definitions.specs.declared.arc.NetArc.{NetArc}
use Rattle.definitions.specs.declared.limits.TheConstants.{ARC_LIMIT, COST_LIMIT, K_LIMIT, NODE_LIMIT, WEIGHT_LIMIT}
use Rattle.definitions.specs.Network.{IsNetwork, arc_at, no_arc}
use Rattle.network.specs.declared.fault.Limit.TheVariants as limit
use Rattle.network.specs.declared.kinds.ArcKind.TheVariants as arc
use Rattle.network.specs.Arcs.{CityArc, arcs_from, arcs_of}
use Rattle.network.specs.Cities.{network_of}
use Rattle.network.specs.Conditions.{AreSources}
use Rattle.network.specs.Faults.{arc_faults, city_faults, cost_faults, limit_faults, node_faults, weight_faults}
use Rattle.network.specs.Nodes.{nodes_of, number_of}
use Rattle.network.specs.Sources.{Sources, kept_numbers, weight_in}
use Rattle.network.proofs.ArcLemmas.{AreLight, arcs_fit}
use Rattle.network.proofs.FitLemmas.{IsArcFrom}
use Rattle.network.proofs.FaultLemmas.{limit_kept, neither, none_each}
use Rattle.network.proofs.KeyedLemmas.{AreKeyed, all_flat, all_stand, keyed_below, keyed_rise}
use Rattle.network.proofs.NumberLemmas.{node_numbered}

-- what passes no limit
pub record AreWithin (sources : Sources) : Type 0 where
  pub light : AreLight sources
  pub nodes : length (nodes_of sources) ≤ NODE_LIMIT
  pub arcs : length (arcs_of sources) ≤ ARC_LIMIT
  pub costs : All (λ (found : CityArc). found.arc.cost ≤ COST_LIMIT) (arcs_of sources)

pub light_from : (sources : Sources) → weight_faults sources ≡ [] → AreLight sources
light_from sources e =
    All-weaker (λ number. limit_faults limit.Weight WEIGHT_LIMIT (weight_in sources number) ≡ []) (λ number. weight_in sources number ≤ WEIGHT_LIMIT)
    (λ number none. limit_kept limit.Weight WEIGHT_LIMIT (weight_in sources number) none) (kept_numbers sources)
    (none_each (λ number. limit_faults limit.Weight WEIGHT_LIMIT (weight_in sources number)) (kept_numbers sources) e)

pub costs_from : (arcs : List CityArc) → cost_faults arcs ≡ [] → All (λ (found : CityArc). found.arc.cost ≤ COST_LIMIT) arcs
costs_from arcs e =
    All-weaker (λ (found : CityArc). limit_faults limit.Cost COST_LIMIT found.arc.cost ≡ []) (λ (found : CityArc). found.arc.cost ≤ COST_LIMIT)
    (λ (found : CityArc) none. limit_kept limit.Cost COST_LIMIT found.arc.cost none) arcs
    (none_each (λ (found : CityArc). limit_faults limit.Cost COST_LIMIT found.arc.cost) arcs e)

pub within_from : (sources : Sources) → city_faults sources ≡ [] → AreWithin sources
within_from sources e =
    let costs = neither (weight_faults sources ++ node_faults sources ++ arc_faults sources) (cost_faults (arcs_of sources)) e in
    let arcs = neither (weight_faults sources ++ node_faults sources) (arc_faults sources) costs.0 in
    let nodes = neither (weight_faults sources) (node_faults sources) arcs.0 in
    record {
      light = light_from sources nodes.0;
      nodes = limit_kept limit.Nodes NODE_LIMIT (length (nodes_of sources)) nodes.1;
      arcs = limit_kept limit.Arcs ARC_LIMIT (length (arcs_of sources)) arcs.1;
      costs = costs_from (arcs_of sources) costs.1;
    }

-- an arc between two nodes, with a positive cost and a weight within its limit
record IsGood (nodes : ℕ) (found : CityArc) : Type 0 where
  head : found.arc.head < nodes
  cost : 0 < found.arc.cost
  weight : is_some found.arc.weight ≡ true → 0 < unwrap_or found.arc.weight 0
  light : unwrap_or found.arc.weight 0 ≤ WEIGHT_LIMIT

good : (sources : Sources) (from : ℕ) (found : CityArc) → IsArcFrom sources from found → IsGood (length (nodes_of sources)) found
good sources from found h = record { head = h.head; cost = h.cost; weight = h.weight; light = h.light }

arcs_good : (sources : Sources) → AreSources sources → AreLight sources → All (IsGood (length (nodes_of sources))) (arcs_of sources)
unfolding arcs_of
arcs_good sources ok light =
    all_flat (IsGood (length (nodes_of sources))) (arcs_from sources) (nodes_of sources)
    (all_stand (λ kind. All (IsGood (length (nodes_of sources))) (arcs_from sources kind)) (nodes_of sources)
    (λ place kind here.
    All-weaker (IsArcFrom sources (number_of sources kind)) (IsGood (length (nodes_of sources))) (good sources (number_of sources kind)) (arcs_from sources kind)
    (arcs_fit sources kind ok light (node_numbered sources place kind here).there)))

-- the arcs of a node have its number as their tail
arcs_keyed : (sources : Sources) → AreSources sources → AreLight sources → AreKeyed (λ (found : CityArc). found.arc.tail) (arcs_from sources) (nodes_of sources) 0
arcs_keyed sources ok light place kind here k d lt =
    let numbered = (node_numbered sources place kind here).numbered in
    let tail = (arcs_fit sources kind ok light (node_numbered sources place kind here).there k d lt).tail in
    omega arith

tails_within : (sources : Sources) → AreSources sources → AreLight sources → All (λ (found : CityArc). found.arc.tail < length (nodes_of sources)) (arcs_of sources)
unfolding arcs_of
tails_within sources ok light =
    let z : 0 + length (nodes_of sources) ≡ length (nodes_of sources) = omega arith in
    let Below : ℕ → Type 0 = λ n. All (λ (found : CityArc). found.arc.tail < n) (flat_map (arcs_from sources) (nodes_of sources)) in
    subst Below z (keyed_below (λ (found : CityArc). found.arc.tail) (arcs_from sources) (nodes_of sources) 0 (arcs_keyed sources ok light))

-- what stands for an arc where there is none
pub no_city_arc : CityArc
no_city_arc = record { arc = no_arc; kind = arc.Access }

tails_rise : (sources : Sources) → AreSources sources → AreLight sources → (one later : ℕ) → one ≤ later → later < length (arcs_of sources) →
    (get_or (arcs_of sources) one no_city_arc).arc.tail ≤ (get_or (arcs_of sources) later no_city_arc).arc.tail
unfolding arcs_of
tails_rise sources ok light = keyed_rise (λ (found : CityArc). found.arc.tail) (arcs_from sources) (nodes_of sources) 0 (arcs_keyed sources ok light) no_city_arc

-- an arc of the network is that of the city at its place
pub arc_is : (sources : Sources) (k a : ℕ) → a < length (network_of sources k).arcs → arc_at (network_of sources k) a ≡ (get_or (arcs_of sources) a no_city_arc).arc
arc_is sources k a lt = get_or-map (λ (found : CityArc). found.arc) (arcs_of sources) a no_city_arc no_arc (rw length-map at lt)

arcs_count : (sources : Sources) (k : ℕ) → length (network_of sources k).arcs ≡ length (arcs_of sources)
arcs_count sources k = length-map (arcs_of sources) (λ (found : CityArc). found.arc)

-- what holds of that arc holds of the one of the network
along : (P : NetArc → Type 0) (one other : NetArc) → one ≡ other → P other → P one
along P one other e h = subst P (sym e) h

pub network_rules : (sources : Sources) (k : ℕ) → AreSources sources → AreWithin sources → k ≤ K_LIMIT → IsNetwork (network_of sources k)
network_rules sources k ok h most =
    let size = arcs_count sources k in
    let at : ℕ → NetArc = λ a. (get_or (arcs_of sources) a no_city_arc).arc in
    let arc : ℕ → NetArc = λ a. arc_at (network_of sources k) a in
    let fine : (a : ℕ) → a < length (network_of sources k).arcs → IsGood (length (nodes_of sources)) (get_or (arcs_of sources) a no_city_arc) =
    λ a lt. arcs_good sources ok h.light a no_city_arc (omega arith) in
    record {
      well_formed = record {
        tails = λ a lt. along (λ x. x.tail < length (nodes_of sources)) (arc a) (at a) (arc_is sources k a lt) (tails_within sources ok h.light a no_city_arc (omega arith));
        heads = λ a lt. along (λ x. x.head < length (nodes_of sources)) (arc a) (at a) (arc_is sources k a lt) (fine a lt).head;
        costs = λ a lt. along (λ x. 0 < x.cost) (arc a) (at a) (arc_is sources k a lt) (fine a lt).cost;
        weights = λ a lt. along (λ x. is_some x.weight ≡ true → 0 < unwrap_or x.weight 0) (arc a) (at a) (arc_is sources k a lt) (fine a lt).weight;
      };
      within = record {
        nodes = h.nodes;
        arcs = let few = h.arcs in omega arith;
        k = most;
        costs = λ a lt. along (λ x. x.cost ≤ COST_LIMIT) (arc a) (at a) (arc_is sources k a lt) (h.costs a no_city_arc (omega arith));
        weights = λ a lt. along (λ x. unwrap_or x.weight 0 ≤ WEIGHT_LIMIT) (arc a) (at a) (arc_is sources k a lt) (fine a lt).light;
      };
      grouped = λ one later le lt.
          along (λ x. x.tail ≤ (arc later).tail) (arc one) (at one) (arc_is sources k one (omega arith))
          (along (λ x. (at one).tail ≤ x.tail) (arc later) (at later) (arc_is sources k later lt) (tails_rise sources ok h.light one later le (omega arith)));
    }
