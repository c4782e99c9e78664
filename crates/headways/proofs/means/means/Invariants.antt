use Rattle.std.proofs.Common.{◌≡◌, []}
use Rattle.headways.specs.Faults.{cost_faults}
use Rattle.headways.specs.Means.{means_of}
use Rattle.headways.proofs.means.means.Given as goal

abbrev pub invariant-loop-place : goal.invariant-loop-place
invariant-loop-place l = record {
  value : l.found.items ≡ means_of l.feed l.weights l.trips l.part l.place;
  faultless : cost_faults (means_of l.feed l.weights l.trips l.part l.place) ≡ [];
}
