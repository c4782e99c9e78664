-- What no solution beats, and how near to it an assignment comes.
-- Spiess and Florian 1989: a solution of their program for all destinations is one plan for each, in fractions of a common denominator.
use Rattle.std.specs.Prelude.{ℕ, ◌+◌, ◌*◌, ◌≤◌, List, sum_by, count_by, slice_index, filter, nat_lt}
use Rattle.std.specs.List.{AllZip}
use Rattle.definitions.specs.Network.{NetworkData, arc_numbers, boarding_arcs, is_boarding, node_numbers}
use Rattle.definitions.specs.Plan.{IsPlan, cost_of_plan}
use Rattle.definitions.specs.Totals.{longest_wait}
use Rattle.demand.specs.declared.tables.Pair.{Pair}
use Rattle.loading.specs.declared.totals.Totals.{Totals}
use Rattle.network.specs.Cities.{CityData}
use Rattle.assign.specs.Visits.{Visit, demand_to, destinations_of, goal_of}

-- the flow of each arc and the wait at each node, to one destination
pub record Flows : Type 0 where
  pub flows : List ℕ
  pub waits : List ℕ

-- flows to a zone that carry all demand to it, times a scale
abbrev pub IsPlanTo : CityData → List Pair → ℕ → ℕ → Flows → Type 0
IsPlanTo city pairs scale zone plan = IsPlan city.net (goal_of city zone) scale (demand_to city pairs zone) plan.flows plan.waits

-- one plan at a scale for each zone with demand
abbrev pub ArePlans : CityData → List Pair → ℕ → List Flows → Type 0
ArePlans city pairs scale plans = AllZip (IsPlanTo city pairs scale) (destinations_of city pairs) plans

-- the cost of plans
abbrev pub cost_of_plans : NetworkData → List Flows → ℕ
cost_of_plans net plans = sum_by (λ plan. cost_of_plan net plan.flows plan.waits) plans

-- whatever the plans are, and at whatever scale: the scale times the bound is at most their cost
abbrev pub NoPlansAreCheaper : CityData → List Pair → ℕ → Type 0
NoPlansAreCheaper city pairs bound =
    (scale : ℕ) (plans : List Flows) → ArePlans city pairs scale plans → scale * bound ≤ cost_of_plans city.net plans

-- the units that board, where these are the volumes of the arcs
abbrev pub units_boarding : NetworkData → List ℕ → ℕ
units_boarding net volumes = sum_by (slice_index volumes) (filter (is_boarding net) (arc_numbers net))

-- the units that wait at a node, and board there
abbrev pub units_boarding_at : NetworkData → List ℕ → ℕ → ℕ
units_boarding_at net volumes node = sum_by (slice_index volumes) (boarding_arcs net node)

-- at how many nodes passengers wait
abbrev pub waiting_nodes : NetworkData → List ℕ → ℕ
waiting_nodes net volumes = count_by (λ node. nat_lt 0 (units_boarding_at net volumes node)) (node_numbers net)

-- how many pairs of a destination and a node there are at which passengers to there wait
abbrev pub waiting_places : NetworkData → List Visit → ℕ
waiting_places net visits = sum_by (λ visit. waiting_nodes net visit.volumes) visits

-- the cost exceeds the bound by at most the units that board, and twice the longest wait for each destination and node at which passengers wait
abbrev pub IsWithinBoardings : NetworkData → Totals → List Visit → Type 0
IsWithinBoardings net totals visits = totals.cost ≤ totals.bound + units_boarding net totals.volumes + 2 * longest_wait net * waiting_places net visits
