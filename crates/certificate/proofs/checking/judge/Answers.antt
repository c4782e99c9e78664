use Rattle.std.proofs.lemmas.Result.{on_ok_weaker}
use Rattle.certificate.proofs.Verdicts.{valid_of}
use Rattle.certificate.proofs.checking.judge.Goals as goal

pub returns-clause-valid : goal.returns-clause-valid
returns-clause-valid c =
    on_ok_weaker c.judge_labels.result (valid_of c.args.claim.now c.requires.lines c.in_ok-judge_conservation.ensures.ok c.in_ok-judge_waits.ensures.ok) c.judge_labels.ensures.ok
