use Rattle.std.specs.Prelude.{IfErr}
use Rattle.std.proofs.lemmas.Result.{IfErr-weaker}
use Rattle.definitions.specs.declared.limits.TheConstants.{WEIGHT_LIMIT}
use Rattle.network.specs.declared.fault.Limit.TheVariants as limit
use Rattle.network.specs.Faults.{IsFirstFault, limit_faults, weight_faults}
use Rattle.network.specs.Sources.{weight_in}
use Rattle.network.proofs.CountLemmas.{weight_fails}
use Rattle.network.proofs.kept.judge_line.Goals as goal

pub returns-clause-refused : goal.returns-clause-refused
returns-clause-refused c =
    let refused : IfErr c.judge_weight.result (IsFirstFault (limit_faults limit.Weight WEIGHT_LIMIT (weight_in c.args.given.now c.args.number))) =
    rw c.weight.ensures.value at c.judge_weight.ensures.refused in
    IfErr-weaker c.judge_weight.result (IsFirstFault (limit_faults limit.Weight WEIGHT_LIMIT (weight_in c.args.given.now c.args.number))) (IsFirstFault (weight_faults c.args.given.now))
    (λ one first. weight_fails c.args.given.now c.args.number one c.requires.before c.requires.number first) refused
