use Rattle.std.proofs.Common.{◌≡◌, ◌<◌, ◌^◌, map}
use Rattle.std.specs.Prelude.{All}
use Rattle.std.specs.List.{range_with_len}
use Rattle.headways.specs.TripWeights.{weight_of}
use Rattle.headways.proofs.weights.trip_weights.Given as goal

abbrev pub invariant-loop-trip : goal.invariant-loop-trip
invariant-loop-trip l = record {
  value : l.weights.items ≡ map (weight_of l.feed l.period) (range_with_len 0 l.trip);
  light : All (λ weight. weight < 2 ^ 92) l.weights.items;
}
