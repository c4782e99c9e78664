use Rattle.std.proofs.Common.{◌+◌, get_or, arith, ap}
use Rattle.definitions.specs.Network.{tail_of, head_of, cost_of}
use Rattle.label_setting.proofs.PlainLemmas.{above_fits, mark_step, mark_less}
use Rattle.label_setting.proofs.plain.mark_tail.Goals as goal

pub overflow_add-labels : goal.overflow_add-labels
overflow_add-labels c =
    let b = above_fits c.args.net.now c.args.dest c.args.reached.now c.args.labels.now c.rules.ensures.rules.within c.requires.above c.arc-entry.result.now.head in
    let l = c.arc-entry.ensures.cost.1 in
    omega (arith, b, l)

pub overflow_add-labels-2 : goal.overflow_add-labels-2
overflow_add-labels-2 c =
    let b = above_fits c.args.net.now c.args.dest c.args.reached.now c.args.labels.now c.rules.ensures.rules.within c.requires.above c.arc-entry.result.now.head in
    let l = c.arc-entry.ensures.cost.1 in let k = c.k.ensures.within in
    omega (arith, b, l, k)

pub returns-clause-above : goal.returns-clause-above
returns-clause-above c = rw c.arc-entry.ensures.value (
    mark_step c.args.net.now c.args.dest c.args.reached.now c.args.labels.now c.rules.ensures.rules.well_formed c.rules.ensures.rules.within c.requires.above c.args.arc c.requires.arc c.requires.head c.requires.tail
    (get_or c.args.labels.now (head_of c.args.net.now c.args.arc) 0 + cost_of c.args.net.now c.args.arc + c.k.result)
    (ap (λ k. get_or c.args.labels.now (head_of c.args.net.now c.args.arc) 0 + cost_of c.args.net.now c.args.arc + k) c.k.ensures.value))

pub returns-clause-more : goal.returns-clause-more
returns-clause-more c = rw c.arc-entry.ensures.value (
    mark_less c.args.net.now c.args.reached.now (tail_of c.args.net.now c.args.arc) c.requires.above.mark_per_node (c.rules.ensures.rules.well_formed.tails c.args.arc c.requires.arc) c.requires.tail)
