use Rattle.std.proofs.Common.{◌<◌, length, arith}
use Rattle.std.proofs.lemmas.List.{get_or_read}
use Rattle.lp_model.proofs.IndexLemmas.{out_within}
use Rattle.lp_model.proofs.network.Network.first.Goals as goal

pub returns-clause-within : goal.returns-clause-within
returns-clause-within c =
    let indexed = rw c.self.view_is at c.self.invariant in
    let there : c.args.n < length c.self.inside.firsts.items = omega (arith, indexed.first_each) in
    omega (
      arith,
      get_or_read c.self.inside.firsts.items c.args.n c.index.result.now there c.index.ensures 0,
      out_within c.args.self.now c.self.inside.firsts.items c.self.inside.entering.items c.self.inside.entering_firsts.items c.args.n indexed c.requires,
    )
