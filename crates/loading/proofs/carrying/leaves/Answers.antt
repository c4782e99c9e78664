use Rattle.loading.proofs.ChosenLemmas.{walked_arc}
use Rattle.loading.proofs.carrying.leaves.Goals as goal

pub returns : goal.returns
returns c =
    let w = walked_arc c.args.net.now c.args.dest c.args.reached.now c.args.labels.now c.args.node c.args.arc c.requires.chosen in
    record { there = w.0; tail = w.1 }
