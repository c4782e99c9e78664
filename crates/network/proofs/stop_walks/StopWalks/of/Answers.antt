use Rattle.std.proofs.Common.{◌∙◌}
use Rattle.network.proofs.PartLemmas.{part-there, part-value}
use Rattle.network.proofs.stop_walks.StopWalks.of.Goals as goal

pub part_of-requires-clause-place : goal.part_of-requires-clause-place
part_of-requires-clause-place c =
    rw c.deref-2.ensures.value (part-there c.self.inside.firsts.items c.self.inside.list.items c.args.self.now c.args.stop c.self.view_is c.requires.stop)

pub returns : goal.returns
returns c = record {
  value = rw (c.deref.ensures.value, c.deref-2.ensures.value) at c.part_of.ensures.value
      ∙ part-value c.self.inside.firsts.items c.self.inside.list.items c.args.self.now c.args.stop c.self.view_is c.requires.stop;
}
