use Rattle.skims.proofs.FillLemmas.{next_filled}
use Rattle.skims.proofs.filling.fill_next.Goals as goal

pub returns : goal.returns
returns c = record {
  next = next_filled c.args.city.now c.args.goal c.args.reached.now c.args.labels.now c.args.order.now c.args.place c.args.rows.now c.skim_for-skim.result
      c.requires.well_formed c.requires.mark_per_node c.requires.order c.requires.place c.requires.so_far c.skim_for-skim.ensures.value;
}
