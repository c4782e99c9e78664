use Rattle.std.proofs.Common.{◌≤◌}
use Rattle.std.specs.List.{AllAdjacentBelow}
use Rattle.feed_reader.specs.TripCalls.{sequence_of}
use Rattle.feed_reader.proofs.order.stand_by_sequence.Given as goal

abbrev pub invariant-loop-place : goal.invariant-loop-place
invariant-loop-place l = AllAdjacentBelow (λ x y. sequence_of x ≤ sequence_of y) l.calls l.place
