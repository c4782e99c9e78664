use Rattle.std.proofs.Common.{arith}
use Rattle.definitions.specs.Network.{weight_of}
use Rattle.definitions.specs.Choice.{is_attractive}
use Rattle.strategy.proofs.RangeLemmas.{sum_one_more, length_one_more, added}
use Rattle.strategy.proofs.choosing.attractive_among.Goals as goal

pub loop-place-preserved : goal.loop-place-preserved
loop-place-preserved c =
    let count = length_one_more (is_attractive c.args.net.now c.args.reached.now c.args.labels.now) c.args.first c.loop-place.place in
    let weight = sum_one_more (weight_of c.args.net.now) (is_attractive c.args.net.now c.args.reached.now c.args.labels.now) c.args.first c.loop-place.place in
    record {
      count = added c.loop-place.invariant.count c.counted-one.ensures.count count;
      weight = added c.loop-place.invariant.weight c.counted-one.ensures.weight weight;
      few = omega arith;
      within = omega arith;
    }
