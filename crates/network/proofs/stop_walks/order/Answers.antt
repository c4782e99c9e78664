use Rattle.std.proofs.Common.{rules}
use Rattle.std.proofs.lemmas.List.Sorted.{IsNonDecreasingBy-from_sort_by_key, answers_always}
use Rattle.feed_reader.proofs.StableLemmas.{kept-by-key}
use Rattle.network.specs.declared.ways.Ruling.TheVariants as ruling
use Rattle.network.specs.declared.ways.Way.{Way}
use Rattle.network.specs.Ways.{way_with}
use Rattle.network.proofs.WalkLemmas.{order-is}
use Rattle.network.proofs.stop_walks.order.Goals as goal

pub returns : goal.returns
returns c = record {
  ok = λ stops all. order-is stops c.args.ways.now.items c.sort_by_key.new.self.items c.sort_by_key-2.new.self.items all
      c.in_ok-sort_by_key.ensures.permutation
      (IsNonDecreasingBy-from_sort_by_key (λ (way : Way). way.to) _ c.in_ok-sort_by_key.ensures.sorted (λ a r q k. search rules))
      (λ key. kept-by-key (λ (way : Way). way.to) c.args.ways.now.items c.sort_by_key.new.self.items (c.sort_by_key.ensures.stable (λ (way : Way). way.to) (answers_always _ _ _ (λ f a r g h. search rules))) (way_with 0 key ruling.Barred))
      c.in_ok-sort_by_key-2.ensures.permutation
      (IsNonDecreasingBy-from_sort_by_key (λ (way : Way). way.from) _ c.in_ok-sort_by_key-2.ensures.sorted (λ a r q k. search rules))
      (λ key. kept-by-key (λ (way : Way). way.from) c.sort_by_key.new.self.items c.sort_by_key-2.new.self.items (c.sort_by_key-2.ensures.stable (λ (way : Way). way.from) (answers_always _ _ _ (λ f a r g h. search rules))) (way_with key 0 ruling.Barred));
}
