use Rattle.std.proofs.Common.{rules, ℕ}
use Rattle.std.proofs.lemmas.List.Sorted.{IsNonDecreasingBy-from_sort_by_key, answers_always}
use Rattle.feed_reader.specs.Stretches.{stretch_trip}
use Rattle.feed_reader.specs.declared.call_rows.Stretch.{Stretch}
use Rattle.feed_reader.proofs.StableLemmas.{kept-by-key}
use Rattle.feed_reader.proofs.order.group_by_trip.Goals as goal

pub returns-clause-sorted : goal.returns-clause-sorted
returns-clause-sorted c = IsNonDecreasingBy-from_sort_by_key stretch_trip _ c.in_ok-sort_by_key.ensures.sorted (λ a r q k. search rules)

with-key : ℕ → Stretch
with-key n = record { trip = n; start = 0; end = 0 }

pub returns-clause-each : goal.returns-clause-each
unfolding with-key
returns-clause-each c = λ n. kept-by-key stretch_trip c.args.stretches.now.items c.sort_by_key.new.self.items (c.sort_by_key.ensures.stable stretch_trip (answers_always _ _ _ (λ f a r g h. search rules))) (with-key n)
