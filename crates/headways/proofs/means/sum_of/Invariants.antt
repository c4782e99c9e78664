use Rattle.std.proofs.Common.{◌≡◌, take}
use Rattle.std.specs.Prelude.{slice_index, sum_by}
use Rattle.headways.proofs.means.sum_of.Given as goal

abbrev pub invariant-loop-trip : goal.invariant-loop-trip
invariant-loop-trip l = l.sum ≡ sum_by (slice_index l.weights) (take l.trip-index l.trips)
