use Rattle.std.proofs.Common.{rules, refl, ℕ, None, false}
use Rattle.std.specs.List.Sorted.{IsNonDecreasingBy}
use Rattle.std.proofs.lemmas.List.Sorted.{IsNonDecreasingBy-from_sort_by_key, answers_always}
use Rattle.feed_reader.specs.TripCalls.{sequence_of}
use Rattle.feed_reader.specs.declared.row_call.RowCall.{RowCall}
use Rattle.feed_reader.proofs.StableLemmas.{kept-by-key}
use Rattle.feed_reader.proofs.OrderLemmas.{sorted-order}
use Rattle.feed_reader.proofs.order.order_by_sequence.Goals as goal

with-key : ℕ → RowCall
with-key n = record { row = 0; sequence = n; stop = None; arrival = None; departure = None; pickup = false; drop = false }

pub returns : goal.returns
unfolding with-key
returns c =
    let up : IsNonDecreasingBy sequence_of c.sort_by_key.new.self.items = IsNonDecreasingBy-from_sort_by_key sequence_of _ c.in_ok-sort_by_key.ensures.sorted (λ a r q k. search rules) in
    record {
      value = sorted-order c.args.calls.now.items c.sort_by_key.new.self.items up
          (λ s. kept-by-key sequence_of c.args.calls.now.items c.sort_by_key.new.self.items (c.sort_by_key.ensures.stable sequence_of (answers_always _ _ _ (λ f a r g h. search rules))) (with-key s));
    }

pub returns-then-stand_by_sequence : goal.returns-then-stand_by_sequence
returns-then-stand_by_sequence c =
    let up : IsNonDecreasingBy sequence_of c.args.calls.now.items = rw c.as_slice.ensures.value at (c.if-stand_by_sequence.ensures.sorted refl) in
    record { value = sorted-order c.args.calls.now.items c.args.calls.now.items up (λ s. refl) }
