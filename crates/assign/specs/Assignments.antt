-- All destinations of a city assigned, and their totals. After Spiess and Florian 1989, in whole units.
use Rattle.std.specs.Prelude.{◌≡◌, ℕ, ◌<◌, List, Option, map, length, take, sum, sum_by, slice_index}
use Rattle.std.specs.List.{AllZip}
use Rattle.definitions.specs.Dual.{bound_of_labels}
use Rattle.definitions.specs.Network.{NetworkData, arc_numbers}
use Rattle.definitions.specs.Plan.{cost_of_plan}
use Rattle.definitions.specs.Totals.{boarding_stops, longest_wait, slack_of}
use Rattle.demand.specs.declared.tables.Pair.{Pair}
use Rattle.loading.specs.declared.totals.Totals.{Totals}
use Rattle.network.specs.Cities.{CityData}
use Rattle.assign.specs.Visits.{AreShown, IsVisitOf, Visit, destinations_of}

-- one visit of each zone with demand, in the order of the zones
abbrev pub AreVisitsOf : CityData → List Pair → List Visit → Type 0
AreVisitsOf city pairs visits = AllZip (IsVisitOf city pairs) (destinations_of city pairs) visits

-- the units of all visits
abbrev pub units_of_visits : List Visit → ℕ
units_of_visits visits = sum_by (λ visit. sum visit.demand) visits

-- the cost of all visits
abbrev pub cost_of_visits : NetworkData → List Visit → ℕ
cost_of_visits net visits = sum_by (λ visit. cost_of_plan net visit.volumes visit.waits) visits

-- the bound of all visits
abbrev pub bound_of_visits : List Visit → ℕ
bound_of_visits visits = sum_by (λ visit. bound_of_labels visit.demand visit.labels) visits

-- the volume of an arc in all visits
abbrev pub volume_of : List Visit → ℕ → ℕ
volume_of visits arc = sum_by (λ visit. slice_index visit.volumes arc) visits

-- the totals of visits: each sum is over all of them, and the slack is that of their units and their number
pub record AreTotalsOfVisits (net : NetworkData) (visits : List Visit) (totals : Totals) : Type 0 where
  pub units : totals.units ≡ units_of_visits visits
  pub destinations : totals.destinations ≡ length visits
  pub cost : totals.cost ≡ cost_of_visits net visits
  pub bound : totals.bound ≡ bound_of_visits visits
  pub slack : totals.slack ≡ slack_of (boarding_stops net) (units_of_visits visits) (longest_wait net) (length visits)
  pub volumes : totals.volumes ≡ map (volume_of visits) (arc_numbers net)

-- totals are those of the one assignment of a city
pub record IsAssignment (city : CityData) (pairs : List Pair) (totals : Totals) : Type 0 where
  pub visits : List Visit
  pub are_visits : AreVisitsOf city pairs visits
  pub is_total : AreTotalsOfVisits city.net visits totals

-- totals are those of the assignment of a city, and its visits were shown
abbrev pub IsShownAssignment : CityData → List Pair → Option (List Visit) → Option (List Visit) → Totals → Type 0
IsShownAssignment city pairs old new totals = (assignment : IsAssignment city pairs totals) × AreShown old new assignment.visits

-- the visits of some zones with demand, the first of them but not all, were shown
pub record StopsEarly (city : CityData) (pairs : List Pair) (old new : Option (List Visit)) : Type 0 where
  pub visits : List Visit
  pub fewer : length visits < length (destinations_of city pairs)
  pub are_visits : AllZip (IsVisitOf city pairs) (take (length visits) (destinations_of city pairs)) visits
  pub are_shown : AreShown old new visits
