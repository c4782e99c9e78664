use Rattle.std.proofs.Common.{◌∙◌, ap, length}
use Rattle.network.proofs.PartLemmas.{parts-total}
use Rattle.network.proofs.stop_walks.StopWalks.count.Goals as goal

pub returns : goal.returns
returns c = record { value = ap length c.as_slice.ensures.value ∙ parts-total c.self.inside.firsts.items c.self.inside.list.items c.args.self.now c.self.view_is c.self.invariant }
