-- All demand to a destination arrives there.
use Rattle.std.proofs.Common.{◌≡◌, ℕ, ◌+◌, ◌*◌, ◌<◌, ◌≤◌, ◌==◌, Bool, cond, List, [], ◌∷◌, length, get_or, refl, sym, ◌∙◌, ap, arith, inl, inr}
use Rattle.std.specs.List.{AllZip, range_with_len, sum, sum_by}
use Rattle.std.proofs.lemmas.Bool.{cases_lt, eq-eqb, ne_eqb}
use Rattle.std.proofs.lemmas.Bool.Decides.{eqb_tells}
use Rattle.definitions.specs.Choice.{choice_at}
use Rattle.definitions.specs.declared.choice.Choice.TheVariants.{Stop}
use Rattle.definitions.specs.Gap.{IsLoaded}
use Rattle.definitions.specs.Network.{NetworkData, IsWellFormed, arc_numbers, head_of, in_arcs, node_numbers, out_arcs, tail_of}
use Rattle.definitions.specs.Plan.{flow_into, flow_out_of}
use Rattle.definitions.specs.Volumes.{SolvesVolumes, part_of, units_at}
use Rattle.definitions.proofs.DualityLemmas.{places}
use Rattle.definitions.proofs.LoadingLaws.{volumes_lead_lower}
use Rattle.definitions.proofs.Sums.{gathered, one_term, range_same, sum_by-add, sum_by-filter, sum_by-none, sum_by-same}
use Rattle.definitions.proofs.VolumeLemmas.{conserves}
use Rattle.demand.specs.declared.tables.Pair.{Pair}
use Rattle.network.specs.Cities.{CityData}
use Rattle.assign.specs.Plans.{Arrives}
use Rattle.assign.specs.Visits.{IsVisitOf, Visit}

-- nobody goes on at the destination
stops_there : (net : NetworkData) (destination : ℕ) (reached : List Bool) (labels : List ℕ) (node : ℕ) → node ≡ destination → choice_at net destination reached labels node ≡ Stop
stops_there net destination reached labels node at = rw (eq-eqb node destination at) refl

-- an arc that leaves the destination has no volume
unused : (net : NetworkData) (destination : ℕ) (reached : List Bool) (labels demand volumes : List ℕ) → SolvesVolumes net destination reached labels demand volumes →
    (arc : ℕ) → arc < length net.arcs → tail_of net arc ≡ destination → get_or volumes arc 0 ≡ 0
unused net destination reached labels demand volumes solves arc lt at =
    solves.parts arc lt
    ∙ ap (λ c. part_of net reached labels c (units_at net demand volumes (tail_of net arc)) arc) (stops_there net destination reached labels (tail_of net arc) at)

-- nothing is sent on from the destination
pub sends_nothing : (net : NetworkData) (destination : ℕ) (reached : List Bool) (labels demand volumes : List ℕ) → SolvesVolumes net destination reached labels demand volumes →
    flow_out_of net volumes destination ≡ 0
sends_nothing net destination reached labels demand volumes solves =
    sum_by-filter (λ a. get_or volumes a 0) (λ a. tail_of net a == destination) (arc_numbers net)
    ∙ range_same (λ a. cond (tail_of net a == destination) (get_or volumes a 0) 0) (λ _. 0) 0 (length net.arcs)
    (λ a low high. elim (eqb_tells (tail_of net a) destination) [
      | inl w ↦ rw w.0 (unused net destination reached labels demand volumes solves a (omega arith) w.1)
      | inr w ↦ rw w.0 refl
    ])
    ∙ sum_by-none (arc_numbers net)

-- what all nodes send on is the volume of all arcs
all_leave : (net : NetworkData) (volumes : List ℕ) → IsWellFormed net → sum_by (flow_out_of net volumes) (node_numbers net) ≡ sum_by (λ a. 1 * get_or volumes a 0) (arc_numbers net)
all_leave net volumes sound =
    sum_by-same (flow_out_of net volumes) (λ i. 1 * sum_by (λ a. get_or volumes a 0) (out_arcs net i)) (node_numbers net) (λ i. omega arith)
    ∙ gathered net.nodes (length net.arcs) (tail_of net) (λ _. 1) (λ a. get_or volumes a 0) sound.tails

-- and so is what comes to all nodes
all_come : (net : NetworkData) (volumes : List ℕ) → IsWellFormed net → sum_by (flow_into net volumes) (node_numbers net) ≡ sum_by (λ a. 1 * get_or volumes a 0) (arc_numbers net)
all_come net volumes sound =
    sum_by-same (flow_into net volumes) (λ i. 1 * sum_by (λ a. get_or volumes a 0) (in_arcs net i)) (node_numbers net) (λ i. omega arith)
    ∙ gathered net.nodes (length net.arcs) (head_of net) (λ _. 1) (λ a. get_or volumes a 0) sound.heads

-- nothing comes to a number that is no node
none_outside : (net : NetworkData) (volumes : List ℕ) (number : ℕ) → IsWellFormed net → net.nodes ≤ number → flow_into net volumes number ≡ 0
none_outside net volumes number sound past =
    sum_by-filter (λ a. get_or volumes a 0) (λ a. head_of net a == number) (arc_numbers net)
    ∙ range_same (λ a. cond (head_of net a == number) (get_or volumes a 0) 0) (λ _. 0) 0 (length net.arcs)
    (λ a low high. let inside = sound.heads a (omega arith) in rw (ne_eqb (head_of net a) number (λ e. omega arith)) refl)
    ∙ sum_by-none (arc_numbers net)

-- the one node with this number
at_one : (f : ℕ → ℕ) (nodes number : ℕ) → (nodes ≤ number → f number ≡ 0) → sum_by (λ i. cond (number == i) (f i) 0) (range_with_len 0 nodes) ≡ f number
at_one f nodes number outside = elim (cases_lt number nodes) [
  | inl lt ↦ one_term f number 0 nodes (omega arith) (omega arith)
  | inr past ↦
      range_same (λ i. cond (number == i) (f i) 0) (λ _. 0) 0 nodes (λ i low high. rw (ne_eqb number i (λ e. omega arith)) refl)
      ∙ sum_by-none (range_with_len 0 nodes) ∙ sym (outside past)
]

-- a node sends on its demand and what comes to it, but for the destination, where all that comes stays
stays_or_goes : (net : NetworkData) (destination : ℕ) (reached : List Bool) (labels demand volumes waits : List ℕ) → IsLoaded net destination reached labels demand volumes waits →
    (node : ℕ) → node < net.nodes → flow_out_of net volumes node + cond (destination == node) (flow_into net volumes node) 0 ≡ get_or demand node 0 + flow_into net volumes node
stays_or_goes net destination reached labels demand volumes waits loaded node lt = elim (eqb_tells destination node) [
  | inl w ↦ rw w.0 (
      let nothing : flow_out_of net volumes node ≡ 0 = ap (flow_out_of net volumes) (sym w.1) ∙ sends_nothing net destination reached labels demand volumes loaded.solves_volumes in
      let none : get_or demand node 0 ≡ 0 = ap (λ j. get_or demand j 0) (sym w.1) ∙ loaded.carried.none_at_destination in
      omega arith)
  | inr w ↦ rw w.0 (
      let all = conserves net destination reached labels demand volumes loaded.solves_labels loaded.solves_volumes loaded.carried node lt (λ e. w.1 (sym e)) in
      omega arith)
]

-- all that comes to the destination is all demand
pub all_arrive : (net : NetworkData) (destination : ℕ) (reached : List Bool) (labels demand volumes waits : List ℕ) → IsLoaded net destination reached labels demand volumes waits →
    flow_into net volumes destination ≡ sum demand
all_arrive net destination reached labels demand volumes waits loaded =
    let into : ℕ → ℕ = flow_into net volumes in
    let out : ℕ → ℕ = flow_out_of net volumes in
    let stays : ℕ → ℕ = λ i. cond (destination == i) (into i) 0 in
    let wanted : ℕ → ℕ = λ i. get_or demand i 0 in
    let each : sum_by (λ i. out i + stays i) (node_numbers net) ≡ sum_by (λ i. wanted i + into i) (node_numbers net) =
    range_same (λ i. out i + stays i) (λ i. wanted i + into i) 0 net.nodes
    (λ i low high. stays_or_goes net destination reached labels demand volumes waits loaded i (omega arith)) in
    let left = sum_by-add out stays (node_numbers net) in
    let right = sum_by-add wanted into (node_numbers net) in
    let leave = all_leave net volumes loaded.well_formed in
    let come = all_come net volumes loaded.well_formed in
    let there : sum_by stays (node_numbers net) ≡ into destination = at_one into net.nodes destination (none_outside net volumes destination loaded.well_formed) in
    let listed : sum_by wanted (node_numbers net) ≡ sum demand =
    rw (← loaded.carried.demand_per_node) (places wanted 0 demand (λ k lt. ap wanted (let z : 0 + k ≡ k = omega arith in z))) in
    omega (arith, each, left, right, leave, come, there, listed)

-- all demand of a visit arrives
arrives : (city : CityData) (pairs : List Pair) (zone : ℕ) (visit : Visit) → IsVisitOf city pairs zone visit → Arrives city pairs zone visit
arrives city pairs zone visit is =
    let loaded = is.loaded in
    record {
      goal_sends_nothing =
          ap (flow_out_of city.net visit.volumes) (sym is.destination)
          ∙ sends_nothing city.net visit.destination is.reached visit.labels visit.demand visit.volumes loaded.solves_volumes;
      leads_lower = volumes_lead_lower city.net visit.destination is.reached visit.labels visit.demand visit.volumes loaded.well_formed loaded.solves_volumes;
      all_arrive =
          ap (flow_into city.net visit.volumes) (sym is.destination)
          ∙ all_arrive city.net visit.destination is.reached visit.labels visit.demand visit.volumes visit.waits loaded
          ∙ ap sum is.demand;
    }

-- all demand to each zone arrives
pub all_visits_arrive : (city : CityData) (pairs : List Pair) (zones : List ℕ) (visits : List Visit) → AllZip (IsVisitOf city pairs) zones visits → AllZip (Arrives city pairs) zones visits
all_visits_arrive city pairs [] [] are = tt
all_visits_arrive city pairs [] (visit ∷ visits) are = absurd are
all_visits_arrive city pairs (zone ∷ zones) [] are = absurd are
all_visits_arrive city pairs (zone ∷ zones) (visit ∷ visits) are = (arrives city pairs zone visit are.0, all_visits_arrive city pairs zones visits are.1)
