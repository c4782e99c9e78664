use Rattle.std.proofs.Common.{◌<◌, length, arith}
use Rattle.feed_reader.proofs.KeptLemmas.{numbers-more, trues-more}
use Rattle.feed_reader.proofs.kept.kept_numbers.Goals as goal

pub loop-keep-preserved : goal.loop-keep-preserved
loop-keep-preserved c =
    let lt : c.loop-keep.keep-index < length c.args.kept.now = omega arith in
    let counted = trues-more c.args.kept.now c.loop-keep.keep-index c.loop-keep.count c.one_if-count.result lt c.loop-keep.invariant.count c.one_if-count.ensures.value in
    record {
      numbers = numbers-more c.args.kept.now c.loop-keep.keep-index c.loop-keep.count c.number_if.result c.loop-keep.numbers.items c.push.new.self.items lt c.loop-keep.invariant.count c.loop-keep.invariant.numbers
          c.number_if.ensures.value c.in_ok-push.ensures.items;
      count = counted.0;
      below = omega (arith, counted.1, c.loop-keep.invariant.below);
    }
