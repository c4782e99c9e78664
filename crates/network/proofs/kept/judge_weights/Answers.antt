use Rattle.std.proofs.Common.{arith}
use Rattle.network.proofs.CountLemmas.{weights_pass}
use Rattle.network.proofs.kept.judge_weights.Goals as goal

pub returns-clause-faultless : goal.returns-clause-faultless
returns-clause-faultless c = weights_pass c.args.given.now (λ i lt. c.loop-number.invariant i (omega arith))
