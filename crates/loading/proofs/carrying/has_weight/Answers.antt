use Rattle.loading.proofs.ChosenLemmas.{waiting_weight}
use Rattle.loading.proofs.carrying.has_weight.Goals as goal

pub returns : goal.returns
returns c = record {
  positive = waiting_weight c.args.net.now c.args.dest c.args.reached.now c.args.labels.now c.requires.labels c.args.node c.requires.node
      c.args.count c.args.weight c.requires.chosen c.args.first c.args.many c.requires.span;
}
