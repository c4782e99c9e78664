use Rattle.std.proofs.Common.{◌<◌, arith}
use Rattle.service_period.proofs.WeightLemmas.{shared-is}
use Rattle.service_period.proofs.weights.shared_seconds.Goals as goal

pub returns-clause-value : goal.returns-clause-value
returns-clause-value c =
    let forward : c.args.period.now.from < c.args.period.now.to = omega arith in
    let counted = shared-is c.args.period.now c.args.band.now forward in
    omega (arith, counted)
