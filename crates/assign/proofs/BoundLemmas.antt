-- The bounds of an assignment, summed over its visits.
use Rattle.std.proofs.Common.{◌≡◌, ◌≢◌, ℕ, ◌+◌, ◌*◌, ◌<◌, ◌≤◌, ◌==◌, ◌&&◌, Bool, true, false, cond, List, [], ◌∷◌, Option, length, map, get_or, refl, sym, ◌∙◌, ap, arith, inl, inr, zero-add}
use Rattle.std.specs.Bool.{nat_le, nat_lt}
use Rattle.std.proofs.lemmas.Bool.{cases_Bool, false≢true}
use Rattle.std.specs.List.{AllZip, filter, sum, sum_by}
use Rattle.std.proofs.lemmas.List.FromFn.{fill_by_all, get_or-map-range_with_len}
use Rattle.std.proofs.lemmas.List.Sums.{sum_by-cons}
use Rattle.definitions.specs.Choice.{attractive_arcs, choice_at}
use Rattle.definitions.specs.declared.choice.Choice.{Choice}
use Rattle.definitions.specs.declared.choice.Choice.TheVariants.{Stop, Walk, Wait}
use Rattle.definitions.specs.Dual.{bound_of_labels, time_through}
use Rattle.definitions.specs.Gap.{IsEnoughForEach, IsLoaded, gap_at, is_to_wait}
use Rattle.definitions.specs.Network.{NetworkData, IsWellFormed, arc_numbers, is_boarding, node_numbers, out_arcs, head_of, tail_of, weight_of}
use Rattle.definitions.specs.Plan.{cost_of_plan}
use Rattle.definitions.specs.Reach.{is_reached}
use Rattle.definitions.specs.Split.{share}
use Rattle.definitions.specs.Totals.{boarding_stops, longest_wait, slack_of}
use Rattle.definitions.specs.Volumes.{part_of, units_at}
use Rattle.definitions.proofs.ChoiceLemmas.{IsChosen, chosen, waits}
use Rattle.definitions.proofs.DualityLemmas.{duality}
use Rattle.definitions.proofs.GapLemmas.{gap_within_nodes, gap_within_slack}
use Rattle.definitions.proofs.LabelLemmas.{labels_dual}
use Rattle.definitions.proofs.Sums.{gathered, range_le, range_same, sum_by-add, sum_by-filter, sum_by-same, sum_by-scale, sum_by-swap}
use Rattle.definitions.proofs.VolumeLemmas.{conserves, out_is}
use Rattle.demand.specs.declared.tables.Pair.{Pair}
use Rattle.network.specs.Cities.{CityData}
use Rattle.loading.specs.declared.totals.Totals.{Totals}
use Rattle.assign.specs.Assignments.{IsAssignment, IsShownAssignment, bound_of_visits, cost_of_visits, units_of_visits, volume_of}
use Rattle.assign.specs.Partway.{IsAssignedBelow}
use Rattle.assign.specs.Sums.{AreTotalsOfSums, AreWithin}
use Rattle.assign.specs.declared.sums.Sums.{Sums}
use Rattle.assign.specs.Bounds.{Flows, IsPlanTo, IsWithinBoardings, NoPlansAreCheaper, units_boarding_at, units_boarding, cost_of_plans, waiting_nodes, waiting_places}
use Rattle.assign.specs.Visits.{IsVisitOf, Visit, destinations_of}

-- a plan to a zone costs no less than the bound of its visit
pub plan_within : (city : CityData) (pairs : List Pair) (scale zone : ℕ) (visit : Visit) (plan : Flows) → IsVisitOf city pairs zone visit → IsPlanTo city pairs scale zone plan →
    scale * bound_of_labels visit.demand visit.labels ≤ cost_of_plan city.net plan.flows plan.waits
plan_within city pairs scale zone visit plan is plans =
    let loaded = is.loaded in
    let here : IsPlanTo city pairs scale zone plan = plans in
    duality city.net visit.destination visit.demand visit.labels loaded.well_formed loaded.carried.demand_per_node
    (labels_dual city.net visit.destination is.reached visit.labels loaded.well_formed is.reach loaded.solves_labels)
    scale plan.flows plan.waits
    (rw (is.destination, is.demand) here)

-- one plan for each zone costs no less than the bounds of all visits
pub plans_within : (city : CityData) (pairs : List Pair) (scale : ℕ) (zones : List ℕ) (visits : List Visit) (plans : List Flows) →
    AllZip (IsVisitOf city pairs) zones visits → AllZip (IsPlanTo city pairs scale) zones plans → scale * bound_of_visits visits ≤ cost_of_plans city.net plans
plans_within city pairs scale [] [] [] are plan = omega arith
plans_within city pairs scale [] (visit ∷ visits) plans are plan = absurd are
plans_within city pairs scale [] [] (one ∷ plans) are plan = absurd plan
plans_within city pairs scale (zone ∷ zones) [] plans are plan = absurd are
plans_within city pairs scale (zone ∷ zones) (visit ∷ visits) [] are plan = absurd plan
plans_within city pairs scale (zone ∷ zones) (visit ∷ visits) (one ∷ plans) are plan =
    let here = plan_within city pairs scale zone visit one are.0 plan.0 in
    let rest = plans_within city pairs scale zones visits plans are.1 plan.1 in
    rw (sum_by-cons (λ (v : Visit). bound_of_labels v.demand v.labels) visit visits, sum_by-cons (λ (p : Flows). cost_of_plan city.net p.flows p.waits) one plans) (omega arith)

-- the slack of one more visit
slack_sum : (stops more units longest count : ℕ) → slack_of stops more longest 1 + slack_of stops units longest count ≡ slack_of stops (more + units) longest (count + 1)
slack_sum stops more units longest count = omega arith

-- all visits cost at most their bounds and the slack
pub cost_within_slack : (city : CityData) (pairs : List Pair) (longest : ℕ) → IsEnoughForEach city.net longest → (zones : List ℕ) (visits : List Visit) → AllZip (IsVisitOf city pairs) zones visits →
    cost_of_visits city.net visits ≤ bound_of_visits visits + slack_of (boarding_stops city.net) (units_of_visits visits) longest (length visits)
cost_within_slack city pairs longest enough [] [] are = omega arith
cost_within_slack city pairs longest enough [] (visit ∷ visits) are = absurd are
cost_within_slack city pairs longest enough (zone ∷ zones) [] are = absurd are
cost_within_slack city pairs longest enough (zone ∷ zones) (visit ∷ visits) are =
    let is : IsVisitOf city pairs zone visit = are.0 in
    let here = gap_within_slack city.net visit.destination is.reached visit.labels visit.demand visit.volumes visit.waits longest is.loaded enough in
    let rest = cost_within_slack city pairs longest enough zones visits are.1 in
    let slack = slack_sum (boarding_stops city.net) (sum visit.demand) (units_of_visits visits) longest (length visits) in
    let count : length (visit ∷ visits) ≡ length visits + 1 = omega arith in
    rw (
      sum_by-cons (λ (v : Visit). bound_of_labels v.demand v.labels) visit visits,
      sum_by-cons (λ (v : Visit). cost_of_plan city.net v.volumes v.waits) visit visits,
      sum_by-cons (λ (v : Visit). sum v.demand) visit visits,
      count,
    ) (omega (arith, here, rest, slack))

-- the totals of an assigned city
pub totals_of : (city : CityData) (pairs : List Pair) (old new : Option (List Visit)) (sums : Sums) (totals : Totals) → IsAssignedBelow city pairs city.zones (length pairs) old new sums →
    AreWithin city.net sums → AreTotalsOfSums sums totals → IsShownAssignment city pairs old new totals
totals_of city pairs old new sums totals below within are =
    let same : slack_of sums.stops sums.units sums.longest sums.destinations ≡ slack_of (boarding_stops city.net) (units_of_visits below.visits) (longest_wait city.net) (length below.visits) =
    rw (within.stops, within.longest, below.are_sums.units, below.are_sums.destinations) refl in (
      record {
        visits = below.visits;
        are_visits = below.are_visits;
        is_total = record {
          units = are.units ∙ below.are_sums.units;
          destinations = are.destinations ∙ below.are_sums.destinations;
          cost = are.cost ∙ below.are_sums.cost;
          bound = are.bound ∙ below.are_sums.bound;
          slack = are.slack ∙ same;
          volumes = are.volumes ∙ fill_by_all (volume_of below.visits) sums.volumes.items (length city.net.arcs) 0 below.are_sums.volume_per_arc below.are_sums.volumes;
        };
      },
      below.are_shown,
    )

-- no plans are cheaper than the bound of an assignment
pub no_plans_cheaper : (city : CityData) (pairs : List Pair) (totals : Totals) → IsAssignment city pairs totals → NoPlansAreCheaper city pairs totals.bound
no_plans_cheaper city pairs totals is scale plans are =
    let bound = is.is_total.bound in
    rw bound (plans_within city pairs scale (destinations_of city pairs) is.visits plans is.are_visits are)

-- ---- boardings

-- where the choice is to wait, an arc that is not boarded takes nothing
only_boards : (net : NetworkData) (reached : List Bool) (labels : List ℕ) (units : ℕ) (c : Choice) → is_to_wait c ≡ true → (a : ℕ) →
    cond (is_boarding net a) (part_of net reached labels c units a) 0 ≡ part_of net reached labels c units a
only_boards net reached labels units Stop w a = absurd (false≢true w)
only_boards net reached labels units (Walk b) w a = absurd (false≢true w)
only_boards net reached labels units (Wait count weight) w a =
    both (is_boarding net a) (is_reached reached (head_of net a) && nat_le (time_through net labels a) (get_or labels (tail_of net a) 0))
    (share units (weight_of net) (attractive_arcs net reached labels (tail_of net a)) a)
  where
    both : (b more : Bool) (n : ℕ) → cond b (cond (b && more) n 0) 0 ≡ cond (b && more) n 0
    both true more n = refl
    both false more n = refl

-- passengers at the destination do not wait
away : (net : NetworkData) (destination : ℕ) (reached : List Bool) (labels : List ℕ) (node : ℕ) (c : Choice) → IsChosen net destination reached labels node c → is_to_wait c ≡ true → node ≢ destination
away net destination reached labels node Stop ch w = absurd (false≢true w)
away net destination reached labels node (Walk b) ch w = absurd (false≢true w)
away net destination reached labels node (Wait _ _) (waits far on slack) w = far

-- where the choice is to wait, all units board
all_board : (net : NetworkData) (destination : ℕ) (reached : List Bool) (labels demand volumes waited : List ℕ) → IsLoaded net destination reached labels demand volumes waited →
    (node : ℕ) → node < net.nodes → is_to_wait (choice_at net destination reached labels node) ≡ true → units_boarding_at net volumes node ≡ units_at net demand volumes node
all_board net destination reached labels demand volumes waited loaded node lt w =
    let units : ℕ = units_at net demand volumes node in
    let choice : Choice = choice_at net destination reached labels node in
    sum_by-filter (λ a. get_or volumes a 0) (is_boarding net) (out_arcs net node)
    ∙ out_is net destination reached labels demand volumes loaded.solves_volumes (λ a n. cond (is_boarding net a) n 0) node
    ∙ range_same (λ a. cond (tail_of net a == node) (cond (is_boarding net a) (part_of net reached labels choice units a) 0) 0)
    (λ a. cond (tail_of net a == node) (part_of net reached labels choice units a) 0) 0 (length net.arcs)
    (λ a low high. ap (λ n. cond (tail_of net a == node) n 0) (only_boards net reached labels units choice w a))
    ∙ sym (out_is net destination reached labels demand volumes loaded.solves_volumes (λ a n. n) node)
    ∙ conserves net destination reached labels demand volumes loaded.solves_labels loaded.solves_volumes loaded.carried node lt
    (away net destination reached labels node choice (chosen net destination reached labels node) w)

-- a node's part of the gap is that of the units that board there
part_within : (net : NetworkData) (destination : ℕ) (reached : List Bool) (labels demand volumes waited : List ℕ) (longest : ℕ) → IsLoaded net destination reached labels demand volumes waited →
    (node : ℕ) → node < net.nodes → gap_at net destination reached labels demand volumes longest node ≤ units_boarding_at net volumes node + 2 * longest * cond (nat_lt 0 (units_boarding_at net volumes node)) 1 0
part_within net destination reached labels demand volumes waited longest loaded node lt = elim (cases_Bool (is_to_wait (choice_at net destination reached labels node))) [
  | inl w ↦ rw (w, all_board net destination reached labels demand volumes waited loaded node lt w) (some (nat_lt 0 (units_at net demand volumes node)) (units_at net demand volumes node))
  | inr no_wait ↦ rw no_wait (omega arith)
]
  where
    some : (b : Bool) (n : ℕ) → cond (true && b) (n + 2 * longest) 0 ≤ n + 2 * longest * cond b 1 0
    some true n = omega arith
    some false n = omega arith

-- what boards at all nodes is what boards
all_boardings : (net : NetworkData) (volumes : List ℕ) → IsWellFormed net → sum_by (units_boarding_at net volumes) (node_numbers net) ≡ units_boarding net volumes
all_boardings net volumes sound =
    let boarded : ℕ → ℕ = λ a. cond (is_boarding net a) (get_or volumes a 0) 0 in
    sum_by-same (units_boarding_at net volumes) (λ i. 1 * sum_by boarded (out_arcs net i)) (node_numbers net)
    (λ i. sum_by-filter (λ a. get_or volumes a 0) (is_boarding net) (out_arcs net i) ∙ omega arith)
    ∙ gathered net.nodes (length net.arcs) (tail_of net) (λ _. 1) boarded sound.tails
    ∙ sum_by-same (λ a. 1 * boarded a) boarded (arc_numbers net) (λ a. omega arith)
    ∙ sym (sum_by-filter (λ a. get_or volumes a 0) (is_boarding net) (arc_numbers net))

-- the cost of one visit
visit_within : (net : NetworkData) (destination : ℕ) (reached : List Bool) (labels demand volumes waited : List ℕ) (longest : ℕ) → IsLoaded net destination reached labels demand volumes waited →
    IsEnoughForEach net longest → cost_of_plan net volumes waited ≤ bound_of_labels demand labels + (units_boarding net volumes + 2 * longest * waiting_nodes net volumes)
visit_within net destination reached labels demand volumes waited longest loaded enough =
    let gap = gap_within_nodes net destination reached labels demand volumes waited longest loaded enough in
    let waiting : ℕ → ℕ = λ i. cond (nat_lt 0 (units_boarding_at net volumes i)) 1 0 in
    let all : sum_by (gap_at net destination reached labels demand volumes longest) (node_numbers net) ≤ sum_by (λ i. units_boarding_at net volumes i + 2 * longest * waiting i) (node_numbers net) =
    range_le (gap_at net destination reached labels demand volumes longest) (λ i. units_boarding_at net volumes i + 2 * longest * waiting i) 0 net.nodes
    (λ i low high. part_within net destination reached labels demand volumes waited longest loaded i (omega arith)) in
    let split : sum_by (λ i. units_boarding_at net volumes i + 2 * longest * waiting i) (node_numbers net) ≡ units_boarding net volumes + 2 * longest * waiting_nodes net volumes =
    sum_by-add (units_boarding_at net volumes) (λ i. 2 * longest * waiting i) (node_numbers net)
    ∙ ap (λ n. n + sum_by (λ i. 2 * longest * waiting i) (node_numbers net)) (all_boardings net volumes loaded.well_formed)
    ∙ ap (λ n. units_boarding net volumes + n) (sym (sum_by-scale (2 * longest) waiting (node_numbers net))) in
    omega arith

-- the cost of all visits
cost_within_boardings : (city : CityData) (pairs : List Pair) (longest : ℕ) → IsEnoughForEach city.net longest → (zones : List ℕ) (visits : List Visit) → AllZip (IsVisitOf city pairs) zones visits →
    cost_of_visits city.net visits ≤ bound_of_visits visits + (sum_by (λ visit. units_boarding city.net visit.volumes) visits + 2 * longest * waiting_places city.net visits)
cost_within_boardings city pairs longest enough [] [] are = omega arith
cost_within_boardings city pairs longest enough [] (visit ∷ visits) are = absurd are
cost_within_boardings city pairs longest enough (zone ∷ zones) [] are = absurd are
cost_within_boardings city pairs longest enough (zone ∷ zones) (visit ∷ visits) are =
    let is : IsVisitOf city pairs zone visit = are.0 in
    let here = visit_within city.net visit.destination is.reached visit.labels visit.demand visit.volumes visit.waits longest is.loaded enough in
    let rest = cost_within_boardings city pairs longest enough zones visits are.1 in
    rw (
      sum_by-cons (λ (v : Visit). bound_of_labels v.demand v.labels) visit visits,
      sum_by-cons (λ (v : Visit). cost_of_plan city.net v.volumes v.waits) visit visits,
      sum_by-cons (λ (v : Visit). units_boarding city.net v.volumes) visit visits,
      sum_by-cons (λ (v : Visit). waiting_nodes city.net v.volumes) visit visits,
    ) (omega (arith, here, rest))

-- what boards in total is what boards in each visit
boardings_total : (net : NetworkData) (visits : List Visit) → units_boarding net (map (volume_of visits) (arc_numbers net)) ≡ sum_by (λ visit. units_boarding net visit.volumes) visits
boardings_total net visits =
    let boards : List ℕ = filter (is_boarding net) (arc_numbers net) in
    let total : List ℕ = map (volume_of visits) (arc_numbers net) in
    sum_by-filter (λ a. get_or total a 0) (is_boarding net) (arc_numbers net)
    ∙ range_same (λ a. cond (is_boarding net a) (get_or total a 0) 0) (λ a. cond (is_boarding net a) (volume_of visits a) 0) 0 (length net.arcs)
    (λ a low high. ap (λ n. cond (is_boarding net a) n 0) (get_or-map-range_with_len (volume_of visits) 0 (length net.arcs) a a 0 (omega arith) (zero-add a)))
    ∙ sym (sum_by-filter (volume_of visits) (is_boarding net) (arc_numbers net))
    ∙ sum_by-swap (λ a (v : Visit). get_or v.volumes a 0) boards visits

-- an assignment costs at most its bound, its boardings, and twice the longest wait for each place at which passengers wait
pub within_boardings : (city : CityData) (pairs : List Pair) (totals : Totals) → IsEnoughForEach city.net (longest_wait city.net) → (assignment : IsAssignment city pairs totals) →
    IsWithinBoardings city.net totals assignment.visits
within_boardings city pairs totals enough is =
    let cost = cost_within_boardings city pairs (longest_wait city.net) enough (destinations_of city pairs) is.visits is.are_visits in
    let boardings : units_boarding city.net totals.volumes ≡ sum_by (λ visit. units_boarding city.net visit.volumes) is.visits =
    ap (units_boarding city.net) is.is_total.volumes ∙ boardings_total city.net is.visits in
    rw (is.is_total.cost, is.is_total.bound, boardings) (omega (arith, cost))
