-- A city has one assignment: reach, labels, volumes and waits have one solution each, and sums over them follow.
use Rattle.std.proofs.Common.{◌≡◌, ℕ, Bool, List, sym, ◌∙◌, subst}
use Rattle.definitions.specs.Gap.{IsLoaded}
use Rattle.definitions.specs.Network.{NetworkData}
use Rattle.definitions.specs.Reach.{IsReach}
use Rattle.definitions.specs.Volumes.{AreLeastWaits, SolvesVolumes}
use Rattle.definitions.proofs.LabelLemmas.{labels_unique, reach_unique}
use Rattle.definitions.proofs.LoadingLaws.{least_waits_are_one, volumes_are_one}
use Rattle.demand.specs.declared.tables.Pair.{Pair}
use Rattle.loading.specs.declared.totals.Totals.{Totals}
use Rattle.network.specs.Cities.{CityData}
use Rattle.assign.specs.Assignments.{IsAssignment, AreTotalsOfVisits}
use Rattle.assign.specs.Visits.{IsVisitOf, Visit, destinations_of}
use Rattle.assign.proofs.JobFeedLemmas.{one_list}

-- two lists each of labels, volumes and waits are one
record AreSame (labels volumes waits others flows least : List ℕ) : Type 0 where
  pub labels_same : labels ≡ others
  pub volumes_same : volumes ≡ flows
  pub waits_same : waits ≡ least

-- one list each follows from a demand to a destination
one_loaded : (net : NetworkData) (destination : ℕ) (reached : List Bool) (labels demand volumes waits others flows least : List ℕ) →
    IsLoaded net destination reached labels demand volumes waits → IsLoaded net destination reached others demand flows least → AreSame labels volumes waits others flows least
one_loaded net destination reached labels demand volumes waits others flows least h g =
    let same : labels ≡ others = labels_unique net destination reached labels others g.well_formed h.solves_labels g.solves_labels in
    let solves : SolvesVolumes net destination reached others demand volumes = subst (λ (some : List ℕ). SolvesVolumes net destination reached some demand volumes) same h.solves_volumes in
    let carry : volumes ≡ flows = volumes_are_one net destination reached others demand volumes flows g.well_formed g.solves_labels.label_per_node solves g.solves_volumes in
    let enough : AreLeastWaits net flows waits = subst (λ (some : List ℕ). AreLeastWaits net some waits) carry h.least_waits in
    record {
      labels_same = same;
      volumes_same = carry;
      waits_same = least_waits_are_one net flows waits least enough g.least_waits;
    }

-- a zone has one visit at most
pub one_visit : (city : CityData) (pairs : List Pair) (zone : ℕ) (a b : Visit) → IsVisitOf city pairs zone a → IsVisitOf city pairs zone b → a ≡ b
one_visit city pairs zone a b h g =
    let destination : a.destination ≡ b.destination = h.destination ∙ sym g.destination in
    let demand : a.demand ≡ b.demand = h.demand ∙ sym g.demand in
    let reach : IsReach city.net b.destination h.reached = subst (λ (node : ℕ). IsReach city.net node h.reached) destination h.reach in
    let reached : h.reached ≡ g.reached = reach_unique city.net b.destination h.reached g.reached reach g.reach in
    let loaded : IsLoaded city.net b.destination g.reached a.labels b.demand a.volumes a.waits =
    subst (λ (node : ℕ). IsLoaded city.net node g.reached a.labels b.demand a.volumes a.waits) destination
    (subst (λ (marks : List Bool). IsLoaded city.net a.destination marks a.labels b.demand a.volumes a.waits) reached
    (subst (λ (units : List ℕ). IsLoaded city.net a.destination h.reached a.labels units a.volumes a.waits) demand h.loaded)) in
    let same = one_loaded city.net b.destination g.reached a.labels b.demand a.volumes a.waits b.labels b.volumes b.waits loaded g.loaded in
    λ i. record {
      destination = destination i;
      demand = demand i;
      labels = same.labels_same i;
      volumes = same.volumes_same i;
      waits = same.waits_same i;
    }

-- visits have one total
one_total : (net : NetworkData) (visits : List Visit) (a b : Totals) → AreTotalsOfVisits net visits a → AreTotalsOfVisits net visits b → a ≡ b
one_total net visits a b h g =
    let units : a.units ≡ b.units = h.units ∙ sym g.units in
    let destinations : a.destinations ≡ b.destinations = h.destinations ∙ sym g.destinations in
    let cost : a.cost ≡ b.cost = h.cost ∙ sym g.cost in
    let bound : a.bound ≡ b.bound = h.bound ∙ sym g.bound in
    let slack : a.slack ≡ b.slack = h.slack ∙ sym g.slack in
    let volumes : a.volumes ≡ b.volumes = h.volumes ∙ sym g.volumes in
    λ i. record { units = units i; destinations = destinations i; cost = cost i; bound = bound i; slack = slack i; volumes = volumes i }

-- the totals of a city's assignment are one
pub one_assignment : (city : CityData) (pairs : List Pair) (a b : Totals) → IsAssignment city pairs a → IsAssignment city pairs b → a ≡ b
one_assignment city pairs a b h g =
    let visits : h.visits ≡ g.visits = one_list (IsVisitOf city pairs) (one_visit city pairs) (destinations_of city pairs) h.visits g.visits h.are_visits g.are_visits in
    let total : AreTotalsOfVisits city.net g.visits a = subst (λ (some : List Visit). AreTotalsOfVisits city.net some a) visits h.is_total in
    one_total city.net g.visits a b total g.is_total
