use Rattle.std.proofs.Common.{length}
use Rattle.demand.proofs.AmountLemmas.{demand-is}
use Rattle.demand.proofs.demand.Demand.of_amounts.Goals as goal

pub returns-clause-demand : goal.returns-clause-demand
returns-clause-demand c = λ zones rows few amounts sound.
    demand-is zones rows c.args.amounts c.in_ok-pairs.pairs.items amounts (c.in_ok-pairs.ensures.value (length zones) few sound.among)
