use Rattle.std.proofs.Common.{length, arith, ◌<◌}
use Rattle.scenarios.proofs.IndexLemmas.{index-more, length-taken}
use Rattle.scenarios.proofs.index.Index.new.Goals as goal

pub loop-place-preserved : goal.loop-place-preserved
loop-place-preserved c =
    let lt : c.loop-place.place < length c.args.ids.items = omega arith in
    index-more c.args.ids.items c.loop-place.place c.index.result.now c.note.new.numbers lt c.index.ensures
    (c.in_ok-note.ensures.noted _ c.loop-place.invariant (length-taken c.args.ids.items c.loop-place.place lt))
