use Rattle.std.proofs.Common.{◌≡◌, ◌*◌, ◌≤◌, take}
use Rattle.std.specs.Prelude.{slice_index, sum_by}
use Rattle.headways.specs.Means.{seconds_of}
use Rattle.headways.specs.TripWeights.{calls_of}
use Rattle.headways.proofs.means.ticks_of.Given as goal

abbrev pub invariant-loop-trip : goal.invariant-loop-trip
invariant-loop-trip l = record {
  value : l.sum ≡ sum_by (λ trip. slice_index l.weights trip * 1000 * seconds_of l.part l.place (calls_of l.feed trip)) (take l.trip-index l.trips);
  bound : l.sum ≤ sum_by (slice_index l.weights) (take l.trip-index l.trips) * 4294967296000;
}
