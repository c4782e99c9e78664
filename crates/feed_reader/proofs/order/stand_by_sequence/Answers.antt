use Rattle.std.proofs.Common.{arith}
use Rattle.std.proofs.lemmas.List.Sorted.{IsNonDecreasingBy-from_all_adjacent}
use Rattle.feed_reader.specs.TripCalls.{sequence_of}
use Rattle.feed_reader.proofs.order.stand_by_sequence.Goals as goal

pub returns : goal.returns
returns c = record {
  sorted = λ e. IsNonDecreasingBy-from_all_adjacent sequence_of c.args.calls.now
      (λ k d lt. let past = c.loop-place-test.false in c.loop-place.invariant k d (omega arith));
}
