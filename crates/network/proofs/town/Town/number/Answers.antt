use Rattle.std.proofs.Common.{arith}
use Rattle.network.proofs.FitLemmas.{number_within}
use Rattle.network.proofs.town.Town.number.Goals as goal

pub overflow_cast-result : goal.overflow_cast-result
overflow_cast-result c =
    omega (arith, number_within c.args.self.now c.args.node c.requires.node)
