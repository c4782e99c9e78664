use Rattle.std.proofs.Common.{◌<◌, get_or, arith}
use Rattle.label_setting.proofs.PlainLemmas.{lower_step, lower_less}
use Rattle.label_setting.proofs.plain.lower.Goals as goal

pub returns-clause-above : goal.returns-clause-above
returns-clause-above c =
    let less : c.greatest-most.result < get_or c.args.labels.now c.args.node 0 = c.requires.high c.greatest-most.result c.greatest-most.ensures.permitted in
    lower_step c.args.net.now c.args.dest c.args.reached.now c.args.labels.now c.requires.above c.args.node c.greatest-most.result c.requires.node c.requires.other (omega arith) c.greatest-most.ensures.greatest

pub returns-clause-less : goal.returns-clause-less
returns-clause-less c =
    lower_less c.args.net.now c.args.labels.now c.args.node c.greatest-most.result c.requires.above.label_per_node c.requires.node (c.requires.high c.greatest-most.result c.greatest-most.ensures.permitted)
