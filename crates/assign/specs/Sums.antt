-- Sums over the visits so far.
use Rattle.std.specs.Prelude.{◌≡◌, ℕ, ◌+◌, ◌*◌, ◌<◌, ◌≤◌, List, length, slice_index, sum}
use Rattle.definitions.specs.declared.limits.TheConstants.{K_LIMIT, LABEL_LIMIT, NODE_LIMIT}
use Rattle.definitions.specs.Dual.{bound_of_labels}
use Rattle.definitions.specs.Gap.{IsEnoughForEach}
use Rattle.definitions.specs.Network.{NetworkData}
use Rattle.definitions.specs.Plan.{cost_of_plan}
use Rattle.definitions.specs.Totals.{boarding_stops, longest_wait, slack_of}
use Rattle.loading.specs.declared.totals.Totals.{Totals}
use Rattle.assign.specs.Assignments.{bound_of_visits, cost_of_visits, units_of_visits, volume_of}
use Rattle.assign.specs.Visits.{Visit}
use Rattle.assign.specs.declared.sums.Sums.{Sums}

-- the sums are those of visits
pub record AreSumsOf (net : NetworkData) (visits : List Visit) (sums : Sums) : Type 0 where
  pub units : sums.units ≡ units_of_visits visits
  pub destinations : sums.destinations ≡ length visits
  pub cost : sums.cost ≡ cost_of_visits net visits
  pub bound : sums.bound ≡ bound_of_visits visits
  pub volume_per_arc : length sums.volumes.items ≡ length net.arcs
  pub volumes : (arc : ℕ) → arc < length net.arcs → slice_index sums.volumes.items arc ≡ volume_of visits arc

-- a visit was added to sums
pub record AddsVisit (net : NetworkData) (old : Sums) (visit : Visit) (new : Sums) : Type 0 where
  pub units : new.units ≡ old.units + sum visit.demand
  pub destinations : new.destinations ≡ old.destinations + 1
  pub cost : new.cost ≡ old.cost + cost_of_plan net visit.volumes visit.waits
  pub bound : new.bound ≡ old.bound + bound_of_labels visit.demand visit.labels
  pub volume_per_arc : length new.volumes.items ≡ length net.arcs
  pub volumes : (arc : ℕ) → arc < length net.arcs → slice_index new.volumes.items arc ≡ slice_index old.volumes.items arc + slice_index visit.volumes arc

-- the sums know how many nodes of the network have a boarding arc and the longest wait, and are no greater than their units permit
pub record AreWithin (net : NetworkData) (sums : Sums) : Type 0 where
  pub stops : sums.stops ≡ boarding_stops net
  pub stops_within : sums.stops ≤ NODE_LIMIT
  pub longest : sums.longest ≡ longest_wait net
  pub longest_within : sums.longest ≤ K_LIMIT
  pub enough : IsEnoughForEach net sums.longest
  pub bound : sums.bound ≤ LABEL_LIMIT * sums.units
  pub cost : sums.cost ≤ sums.bound + slack_of sums.stops sums.units sums.longest sums.destinations
  pub volume_per_arc : length sums.volumes.items ≡ length net.arcs
  pub volumes : (arc : ℕ) → arc < length net.arcs → slice_index sums.volumes.items arc ≤ sums.units

-- totals are those of sums
pub record AreTotalsOfSums (sums : Sums) (totals : Totals) : Type 0 where
  pub units : totals.units ≡ sums.units
  pub destinations : totals.destinations ≡ sums.destinations
  pub cost : totals.cost ≡ sums.cost
  pub bound : totals.bound ≡ sums.bound
  pub slack : totals.slack ≡ slack_of sums.stops sums.units sums.longest sums.destinations
  pub volumes : totals.volumes ≡ sums.volumes.items
