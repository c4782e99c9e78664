-- Sums over visits stay within what their units permit.
use Rattle.std.proofs.Common.{◌≡◌, ℕ, ◌+◌, ◌*◌, ◌<◌, ◌≤◌, All, List, length, get_or, sym, ◌∙◌, ap, arith, zero-add}
use Rattle.std.proofs.Math.Nat.{mul-le-mul_right}
use Rattle.std.specs.List.{range_with_len, sum, sum_by}
use Rattle.definitions.specs.declared.limits.TheConstants.{LABEL_LIMIT}
use Rattle.definitions.specs.Dual.{bound_of_labels}
use Rattle.definitions.specs.Network.{NetworkData}
use Rattle.definitions.specs.Plan.{cost_of_plan}
use Rattle.definitions.specs.Totals.{slack_of}
use Rattle.definitions.proofs.DualityLemmas.{places}
use Rattle.definitions.proofs.GapLemmas.{gap_within_slack}
use Rattle.definitions.proofs.Sums.{range_le, sum_by-scale}
use Rattle.definitions.proofs.UnitLemmas.{volumes_are_within_demand}
use Rattle.assign.specs.Rooms.{IsFilled, visit_in}
use Rattle.assign.specs.Sums.{AddsVisit, AreWithin}
use Rattle.assign.specs.declared.room.Room.{Room}
use Rattle.assign.specs.declared.sums.Sums.{Sums}

-- the bound of labels up to a limit
pub bound_within : (limit : ℕ) (demand labels : List ℕ) → length labels ≡ length demand → All (λ label. label ≤ limit) labels → bound_of_labels demand labels ≤ limit * sum demand
bound_within limit demand labels long within =
    let all : sum_by (λ node. limit * get_or demand node 0) (range_with_len 0 (length demand)) ≡ limit * sum demand =
    sym (sum_by-scale limit (λ node. get_or demand node 0) (range_with_len 0 (length demand)))
    ∙ ap (λ n. limit * n) (places (λ node. get_or demand node 0) 0 demand (λ i lt. ap (λ j. get_or demand j 0) (zero-add i))) in
    let each : bound_of_labels demand labels ≤ sum_by (λ node. limit * get_or demand node 0) (range_with_len 0 (length demand)) =
    range_le (λ node. get_or demand node 0 * get_or labels node 0) (λ node. limit * get_or demand node 0) 0 (length demand)
    (λ i low high. let few : get_or labels i 0 ≤ limit = within i 0 (omega arith) in times (get_or demand i 0) (get_or labels i 0) limit few) in
    omega arith
  where
    times : (a b c : ℕ) → b ≤ c → a * b ≤ c * a
    times a b c le = omega (arith, mul-le-mul_right a le)

-- the slack of one more destination
slack_more : (stops units more longest destinations : ℕ) →
    slack_of stops units longest destinations + slack_of stops more longest 1 ≡ slack_of stops (units + more) longest (destinations + 1)
slack_more stops units more longest destinations = omega arith

-- no arc has more volume than there is demand
pub volume_within : (net : NetworkData) (destination : ℕ) (room : Room) → IsFilled net destination room → (arc : ℕ) → arc < length net.arcs →
    get_or room.loads.volumes arc 0 ≤ sum room.demand.items
volume_within net destination room filled arc lt =
    volumes_are_within_demand net destination room.labels.reached room.labels.labels room.demand.items room.loads.volumes
    filled.loaded.well_formed filled.loaded.solves_labels filled.loaded.carried filled.loaded.solves_volumes arc lt

-- with one more visit the sums are within what their units permit
pub within_more : (net : NetworkData) (destination : ℕ) (room : Room) (old new : Sums) → IsFilled net destination room → AreWithin net old →
    AddsVisit net old (visit_in destination room) new → new.stops ≡ old.stops → new.longest ≡ old.longest → AreWithin net new
within_more net destination room old new filled within added stops longest =
    let long : length room.labels.labels ≡ length room.demand.items = filled.loaded.solves_labels.label_per_node ∙ sym filled.loaded.carried.demand_per_node in
    let bound : bound_of_labels room.demand.items room.labels.labels ≤ LABEL_LIMIT * sum room.demand.items =
    bound_within LABEL_LIMIT room.demand.items room.labels.labels long filled.labels_within in
    let gap : cost_of_plan net room.loads.volumes room.loads.waits ≤ bound_of_labels room.demand.items room.labels.labels + slack_of old.stops (sum room.demand.items) old.longest 1 =
    rw within.stops
    (gap_within_slack net destination room.labels.reached room.labels.labels room.demand.items room.loads.volumes room.loads.waits old.longest filled.loaded within.enough) in
    record {
      stops = stops ∙ within.stops;
      stops_within = let le = within.stops_within in omega arith;
      longest = longest ∙ within.longest;
      longest_within = let le = within.longest_within in omega arith;
      enough = rw longest within.enough;
      bound = let before = within.bound in let more = added.bound in let units = added.units in omega arith;
      cost = rw (stops, longest, added.units, added.destinations, added.cost, added.bound) (
          let before : old.cost ≤ old.bound + slack_of old.stops old.units old.longest old.destinations = within.cost in
          omega (arith, slack_more old.stops old.units (sum room.demand.items) old.longest old.destinations));
      volume_per_arc = added.volume_per_arc;
      volumes = λ arc lt.
          let before : get_or old.volumes.items arc 0 ≤ old.units = within.volumes arc lt in
          let more : get_or new.volumes.items arc 0 ≡ get_or old.volumes.items arc 0 + get_or room.loads.volumes arc 0 = added.volumes arc lt in
          let units = added.units in
          omega (arith, volume_within net destination room filled arc lt);
    }
