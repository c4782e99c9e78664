-- The visits of an assignment are plans, which cost no less than their bounds.
use Rattle.std.proofs.Common.{◌≡◌, ℕ, ◌*◌, ◌≤◌, List, [], ◌∷◌, length, ap, subst, ◌∙◌, arith}
use Rattle.std.specs.List.{AllZip}
use Rattle.std.proofs.lemmas.List.FromFn.{length-map-range_with_len}
use Rattle.std.proofs.lemmas.List.Sums.{sum_by-cons}
use Rattle.definitions.specs.Dual.{bound_of_labels}
use Rattle.definitions.specs.Plan.{IsPlan, cost_of_plan}
use Rattle.definitions.proofs.LoadingLaws.{volumes_are_a_plan}
use Rattle.demand.specs.declared.tables.Pair.{Pair}
use Rattle.loading.specs.declared.totals.Totals.{Totals}
use Rattle.network.specs.Cities.{CityData}
use Rattle.assign.specs.Assignments.{IsAssignment, bound_of_visits, cost_of_visits, volume_of}
use Rattle.assign.specs.Plans.{HasPlans, IsPlanOf, flows_of}
use Rattle.assign.specs.Visits.{IsVisitOf, Visit, demand_to, destinations_of}
use Rattle.assign.proofs.ArrivalLemmas.{all_visits_arrive}
use Rattle.assign.proofs.BoundLemmas.{plan_within}

-- a visit is a plan
plan_of : (city : CityData) (pairs : List Pair) (zone : ℕ) (visit : Visit) → IsVisitOf city pairs zone visit → IsPlanOf city pairs zone visit
plan_of city pairs zone visit is =
    let loaded = is.loaded in
    let plan : IsPlan city.net visit.destination 1 visit.demand visit.volumes visit.waits =
    volumes_are_a_plan city.net visit.destination is.reached visit.labels visit.demand visit.volumes visit.waits
    loaded.well_formed loaded.solves_labels loaded.carried loaded.solves_volumes loaded.least_waits in
    subst (λ (d : ℕ). IsPlan city.net d 1 (demand_to city pairs zone) visit.volumes visit.waits) is.destination
    (subst (λ (g : List ℕ). IsPlan city.net visit.destination 1 g visit.volumes visit.waits) is.demand plan)

-- each visit is a plan to its zone
plans_of : (city : CityData) (pairs : List Pair) (zones : List ℕ) (visits : List Visit) → AllZip (IsVisitOf city pairs) zones visits → AllZip (IsPlanOf city pairs) zones visits
plans_of city pairs [] [] are = tt
plans_of city pairs [] (visit ∷ visits) are = absurd are
plans_of city pairs (zone ∷ zones) [] are = absurd are
plans_of city pairs (zone ∷ zones) (visit ∷ visits) are = (plan_of city pairs zone visit are.0, plans_of city pairs zones visits are.1)

-- visits cost no less than their bounds
bounds_within : (city : CityData) (pairs : List Pair) (zones : List ℕ) (visits : List Visit) → AllZip (IsVisitOf city pairs) zones visits →
    bound_of_visits visits ≤ cost_of_visits city.net visits
bounds_within city pairs [] [] are = omega arith
bounds_within city pairs [] (visit ∷ visits) are = absurd are
bounds_within city pairs (zone ∷ zones) [] are = absurd are
bounds_within city pairs (zone ∷ zones) (visit ∷ visits) are =
    let is : IsVisitOf city pairs zone visit = are.0 in
    let here : 1 * bound_of_labels visit.demand visit.labels ≤ cost_of_plan city.net visit.volumes visit.waits =
    plan_within city pairs 1 zone visit (flows_of visit) is (plan_of city pairs zone visit is) in
    let rest = bounds_within city pairs zones visits are.1 in
    rw (sum_by-cons (λ (v : Visit). bound_of_labels v.demand v.labels) visit visits, sum_by-cons (λ (v : Visit). cost_of_plan city.net v.volumes v.waits) visit visits)
    (omega (arith, here, rest))

-- an assignment has plans, with which all demand arrives
pub has_plans : (city : CityData) (pairs : List Pair) (totals : Totals) → IsAssignment city pairs totals → HasPlans city pairs totals
has_plans city pairs totals is = record {
  assignment = is;
  plans = plans_of city pairs (destinations_of city pairs) is.visits is.are_visits;
  arrive = all_visits_arrive city pairs (destinations_of city pairs) is.visits is.are_visits;
}

-- the bound of an assignment is at most its cost
pub bound_within_cost : (city : CityData) (pairs : List Pair) (totals : Totals) → IsAssignment city pairs totals → totals.bound ≤ totals.cost
bound_within_cost city pairs totals is =
    let within = bounds_within city pairs (destinations_of city pairs) is.visits is.are_visits in
    rw (is.is_total.bound, is.is_total.cost) within

-- an assignment has a volume for each arc
pub volume_per_arc : (city : CityData) (pairs : List Pair) (totals : Totals) → IsAssignment city pairs totals → length totals.volumes ≡ length city.net.arcs
volume_per_arc city pairs totals is = ap length is.is_total.volumes ∙ length-map-range_with_len (volume_of is.visits) 0 (length city.net.arcs)
