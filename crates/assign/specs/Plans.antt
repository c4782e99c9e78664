-- The visits of an assignment as plans.
-- Spiess and Florian 1989: the volumes and waits of a destination are a solution of their program, here in whole units.
use Rattle.std.specs.Prelude.{◌≡◌, ℕ, ◌<◌, List, length, slice_index, sum}
use Rattle.std.specs.List.{AllZip}
use Rattle.definitions.specs.Network.{head_of, tail_of}
use Rattle.definitions.specs.Plan.{flow_into, flow_out_of}
use Rattle.demand.specs.declared.tables.Pair.{Pair}
use Rattle.loading.specs.declared.totals.Totals.{Totals}
use Rattle.network.specs.Cities.{CityData}
use Rattle.assign.specs.Assignments.{IsAssignment}
use Rattle.assign.specs.Bounds.{Flows, IsPlanTo}
use Rattle.assign.specs.Visits.{Visit, demand_to, destinations_of, goal_of}

-- the flows of a visit: its volumes, and its waits
abbrev pub flows_of : Visit → Flows
flows_of visit = record { flows = visit.volumes; waits = visit.waits }

-- the volumes and waits of a visit are a plan to a zone at scale 1: each node but the goal sends on its demand and what comes to it
abbrev pub IsPlanOf : CityData → List Pair → ℕ → Visit → Type 0
IsPlanOf city pairs zone visit = IsPlanTo city pairs 1 zone (flows_of visit)

-- all demand to a zone arrives: nothing is sent on from its goal, volume leads to lower labels alone, so that no unit goes in circles,
-- and what comes to the goal is the demand of all nodes
pub record Arrives (city : CityData) (pairs : List Pair) (zone : ℕ) (visit : Visit) : Type 0 where
  pub goal_sends_nothing : flow_out_of city.net visit.volumes (goal_of city zone) ≡ 0
  pub leads_lower : (arc : ℕ) → arc < length city.net.arcs → 0 < slice_index visit.volumes arc →
      slice_index visit.labels (head_of city.net arc) < slice_index visit.labels (tail_of city.net arc)
  pub all_arrive : flow_into city.net visit.volumes (goal_of city zone) ≡ sum (demand_to city pairs zone)

-- totals are those of the assignment of a city, each of its visits is a plan to its zone, and all demand to there arrives
pub record HasPlans (city : CityData) (pairs : List Pair) (totals : Totals) : Type 0 where
  pub assignment : IsAssignment city pairs totals
  pub plans : AllZip (IsPlanOf city pairs) (destinations_of city pairs) assignment.visits
  pub arrive : AllZip (Arrives city pairs) (destinations_of city pairs) assignment.visits
