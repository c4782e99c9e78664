use Rattle.std.proofs.Common.{◌∙◌, arith, refl}
use Rattle.label_setting.proofs.PlainLemmas.{above_reach, above_solves, mark_within}
use Rattle.label_setting.proofs.plain.find.Goals as goal

pub returns-clause-reach : goal.returns-clause-reach
returns-clause-reach c = above_reach c.args.net.now c.args.dest c.mark_one.new.reached c.lower_one.new.labels c.loop-2-test.ensures.above c.loop-2.invariant.closed

pub returns-clause-labels : goal.returns-clause-labels
returns-clause-labels c =
    let above = c.loop-2-test.ensures.above in
    let far = c.farthest_of-far.ensures in
    let ll = above.label_per_node in
    above_solves c.args.net.now c.args.dest c.mark_one.new.reached c.lower_one.new.labels c.fill.new.labels c.farthest_of-far.result c.rules.ensures.rules.well_formed above
    (c.loop-2-test.ensures.last refl) (c.fill.ensures.count ∙ ll) c.requires.there (λ i lt. c.fill.ensures.each i (let e = c.fill.ensures.count in omega arith))
    far.one.0 (mark_within c.args.net.now c.args.dest c.mark_one.new.reached c.lower_one.new.labels above far.one.0 far.one.1) far.one.1 far.one.2 (λ i lt on. far.highest i (omega arith) on)
