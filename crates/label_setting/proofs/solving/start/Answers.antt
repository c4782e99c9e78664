use Rattle.label_setting.proofs.WholeLemmas.{start_step}
use Rattle.label_setting.proofs.solving.start.Goals as goal

pub spread-requires-clause-spreads : goal.spread-requires-clause-spreads
spread-requires-clause-spreads c = start_step c.args.net.now c.args.dest c.requires.dest c.reset.new.state c.mark.new.state c.reset.ensures.made c.reset.ensures.reset c.mark.ensures.settled
