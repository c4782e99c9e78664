-- What comes in at a node, other than one where passengers begin or end, goes out of it: so it is of each visit, and of all together.
use Rattle.std.proofs.Common.{◌≡◌, ℕ, ◌+◌, ◌<◌, ◌≤◌, ◌==◌, Bool, false, cond, List, [], ◌∷◌, length, get_or, map, refl, sym, ap, subst, ◌∙◌, inl, inr, arith, zero-add}
use Rattle.std.specs.Prelude.{All, nat_lt, slice_index}
use Rattle.std.specs.List.{AllZip, filter, list_any, range_with_len, sum_by}
use Rattle.std.proofs.lemmas.Bool.{cases_Bool, le-ltb, ltb-false, ltb-true}
use Rattle.std.proofs.lemmas.List.{get_or-map}
use Rattle.std.proofs.lemmas.List.Elements.{All-head, All-tail}
use Rattle.std.proofs.lemmas.List.FromFn.{get_or-range_with_len, length-range_with_len}
use Rattle.std.proofs.lemmas.List.Sums.{sum_by-cons}
use Rattle.std.proofs.lemmas.Option.{get_or_from_slice_get}
use Rattle.definitions.proofs.Spans.{filter_keeps}
use Rattle.definitions.proofs.Sums.{sum_by-swap}
use Rattle.definitions.specs.Network.{arc_numbers, head_of, tail_of}
use Rattle.definitions.specs.Plan.{flow_into, flow_out_of}
use Rattle.demand.specs.Pairs.{units_from_to}
use Rattle.demand.specs.declared.tables.Pair.{Pair}
use Rattle.line_report.specs.OnBoard.{AreConserved, IsOnTheWay}
use Rattle.loading.specs.declared.totals.Totals.{Totals}
use Rattle.network.specs.Cities.{CityData, IsCity, node_kind_of}
use Rattle.network.specs.declared.kinds.NodeKind.TheVariants as node
use Rattle.assign.specs.Assignments.{IsAssignment, volume_of}
use Rattle.assign.specs.Plans.{IsPlanOf}
use Rattle.assign.specs.Visits.{Visit, demand_to, destinations_of, goal_of, leads_to, units_at_node}
use Rattle.assign.proofs.PlanLemmas.{has_plans}

-- ---- where no passenger begins or ends

-- such a node is behind the origins
behind_origins : (city : CityData) (number : ℕ) → IsCity city → IsOnTheWay (node_kind_of city number) → city.zones ≤ number
behind_origins city number rules way = elim (cases_Bool (nat_lt number city.zones)) [
  | inl lt ↦ absurd (subst IsOnTheWay (get_or_from_slice_get city.nodes number (node.Origin number) (node.Origin 0) (rules.origins number (ltb-true number city.zones lt))) way)
  | inr past ↦ ltb-false number city.zones past
]

-- and is no goal
no_goal : (city : CityData) (number zone : ℕ) → IsCity city → IsOnTheWay (node_kind_of city number) → zone < city.zones → number ≡ goal_of city zone → ⊥
no_goal city number zone rules way lt e =
    subst IsOnTheWay (ap (node_kind_of city) e ∙ get_or_from_slice_get city.nodes (city.zones + zone) (node.Goal zone) (node.Origin 0) (rules.goals zone lt)) way

-- so no demand is there
no_demand : (city : CityData) (pairs : List Pair) (zone number : ℕ) → city.zones ≤ number → number < city.net.nodes → slice_index (demand_to city pairs zone) number ≡ 0
no_demand city pairs zone number behind lt =
    let size = length-range_with_len 0 city.net.nodes in
    get_or-map (units_at_node city pairs zone) (range_with_len 0 city.net.nodes) number 0 0 (omega arith)
    ∙ ap (units_at_node city pairs zone) (get_or-range_with_len 0 city.net.nodes number 0 lt ∙ zero-add number)
    ∙ below (nat_lt number city.zones) (le-ltb number city.zones behind)
  where
    below : (b : Bool) → b ≡ false → cond b (units_from_to pairs number zone) 0 ≡ 0
    below b e = rw e refl

-- ---- one visit, and all

visit_conserves : (city : CityData) (pairs : List Pair) (zone number : ℕ) (visit : Visit) → IsCity city → IsPlanOf city pairs zone visit → zone < city.zones →
    IsOnTheWay (node_kind_of city number) → number < city.net.nodes → flow_out_of city.net visit.volumes number ≡ flow_into city.net visit.volumes number
visit_conserves city pairs zone number visit rules plan within way lt =
    let sent = plan.conserved number lt (no_goal city number zone rules way within) in
    let none = no_demand city pairs zone number (behind_origins city number rules way) lt in
    omega (arith, sent, none)

all_conserve : (city : CityData) (pairs : List Pair) (number : ℕ) (zones : List ℕ) (visits : List Visit) → IsCity city → AllZip (IsPlanOf city pairs) zones visits →
    All (λ zone. zone < city.zones) zones → IsOnTheWay (node_kind_of city number) → number < city.net.nodes →
    sum_by (λ (visit : Visit). flow_out_of city.net visit.volumes number) visits ≡ sum_by (λ (visit : Visit). flow_into city.net visit.volumes number) visits
all_conserve city pairs number [] [] rules plans within way lt = refl
all_conserve city pairs number [] (visit ∷ visits) rules plans within way lt = absurd plans
all_conserve city pairs number (zone ∷ zones) [] rules plans within way lt = absurd plans
all_conserve city pairs number (zone ∷ zones) (visit ∷ visits) rules plans within way lt =
    let here = visit_conserves city pairs zone number visit rules plans.0 (All-head (λ z. z < city.zones) zone zones within) way lt in
    let rest = all_conserve city pairs number zones visits rules plans.1 (All-tail (λ z. z < city.zones) zone zones within) way lt in
    rw (sum_by-cons (λ (v : Visit). flow_out_of city.net v.volumes number) visit visits, sum_by-cons (λ (v : Visit). flow_into city.net v.volumes number) visit visits, here, rest) refl

-- ---- the totals

same_on : (f g : ℕ → ℕ) (xs : List ℕ) → All (λ a. f a ≡ g a) xs → sum_by f xs ≡ sum_by g xs
same_on f g [] each = refl
same_on f g (x ∷ xs) each =
    let here = All-head (λ a. f a ≡ g a) x xs each in
    rw (sum_by-cons f x xs, sum_by-cons g x xs, here, same_on f g xs (All-tail (λ a. f a ≡ g a) x xs each)) refl

-- the volume of an arc in the totals
volume_is : (city : CityData) (visits : List Visit) (volumes : List ℕ) (arc : ℕ) → volumes ≡ map (volume_of visits) (arc_numbers city.net) → arc < length city.net.arcs →
    slice_index volumes arc ≡ volume_of visits arc
volume_is city visits volumes arc is lt =
    let size = length-range_with_len 0 (length city.net.arcs) in
    ap (λ vs. slice_index vs arc) is
    ∙ get_or-map (volume_of visits) (arc_numbers city.net) arc 0 0 (omega arith)
    ∙ ap (volume_of visits) (get_or-range_with_len 0 (length city.net.arcs) arc 0 lt ∙ zero-add arc)

-- the sum over some arcs is that over the visits of their sums
sums_of : (city : CityData) (visits : List Visit) (volumes : List ℕ) (test : ℕ → Bool) → volumes ≡ map (volume_of visits) (arc_numbers city.net) →
    sum_by (slice_index volumes) (filter test (arc_numbers city.net)) ≡ sum_by (λ (visit : Visit). sum_by (slice_index visit.volumes) (filter test (arc_numbers city.net))) visits
sums_of city visits volumes test is =
    same_on (slice_index volumes) (volume_of visits) (filter test (arc_numbers city.net))
    (λ i d lt.
    let kept = (filter_keeps test 0 (length city.net.arcs) i d lt).0 in
    volume_is city visits volumes (get_or (filter test (arc_numbers city.net)) i d) is (omega arith))
    ∙ sum_by-swap (λ a (v : Visit). get_or v.volumes a 0) (filter test (arc_numbers city.net)) visits

pub totals_conserved : (city : CityData) (pairs : List Pair) (totals : Totals) → IsCity city → IsAssignment city pairs totals → AreConserved city totals.volumes
totals_conserved city pairs totals rules is number lt way =
    let held = has_plans city pairs totals is in
    let visits = held.assignment.visits in
    sums_of city visits totals.volumes (λ a. tail_of city.net a == number) held.assignment.is_total.volumes
    ∙ all_conserve city pairs number (destinations_of city pairs) visits rules held.plans
    (λ i d within. let kept = (filter_keeps (λ zone. list_any (leads_to zone) pairs) 0 city.zones i d within).0 in omega arith) way lt
    ∙ sym (sums_of city visits totals.volumes (λ a. head_of city.net a == number) held.assignment.is_total.volumes)
