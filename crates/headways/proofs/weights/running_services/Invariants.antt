use Rattle.std.proofs.Common.{◌≡◌, map}
use Rattle.std.specs.List.{range_with_len}
use Rattle.headways.specs.TripWeights.{is_on}
use Rattle.headways.proofs.weights.running_services.Given as goal

abbrev pub invariant-loop-service : goal.invariant-loop-service
invariant-loop-service l = l.running.items ≡ map (is_on l.feed l.period) (range_with_len 0 l.service)
