use Rattle.std.proofs.Common.{◌≡◌, ◌∙◌, ◌⊎◌, ap, sym, subst}
use Rattle.certificate.specs.declared.refused.Refused.TheVariants as refused
use Rattle.certificate.specs.Stops.{StopsWith}
use Rattle.certificate.specs.Fed.{bytes_so_far}
use Rattle.certificate.specs.Spelling.{spelling}
use Rattle.certificate.proofs.FedLemmas.{handed_on, refused_with}
use Rattle.certificate.proofs.Unique.{only_read, only_judged, only_shown, bound_holds}
use Rattle.certificate.proofs.OneRefusal.{refused_only, not_refused}
use Rattle.certificate.proofs.Verdicts.{verdict_is, lower_bound, gap_is, failure_is}
use Rattle.certificate.proofs.checker.Checker.finish.Goals as goal

pub returns-in_err-claim-clause-refused : goal.returns-in_err-claim-clause-refused
returns-in_err-claim-clause-refused c = λ fresh.
    let stops : (c.in_err-claim.field-0.0 ≡ refused.NoMemory) ⊎ StopsWith (bytes_so_far c.args.self) c.in_err-claim.field-0.0 =
    subst (λ bs. (c.in_err-claim.field-0.0 ≡ refused.NoMemory) ⊎ StopsWith bs c.in_err-claim.field-0.0) (ap bytes_so_far c.self.view_is) c.in_err-claim.ensures.refused in
    handed_on c.from_residual.result (bytes_so_far c.args.self) c.in_err-claim.field-0.0 (refused_with (bytes_so_far c.args.self) c.in_err-claim.field-0.0 stops) c.from_residual.ensures.1

pub returns-in_err-claim-clause-refused_only : goal.returns-in_err-claim-clause-refused_only
returns-in_err-claim-clause-refused_only c = λ fresh.
    let stops : (c.in_err-claim.field-0.0 ≡ refused.NoMemory) ⊎ StopsWith (bytes_so_far c.args.self) c.in_err-claim.field-0.0 =
    subst (λ bs. (c.in_err-claim.field-0.0 ≡ refused.NoMemory) ⊎ StopsWith bs c.in_err-claim.field-0.0) (ap bytes_so_far c.self.view_is) c.in_err-claim.ensures.refused in
    refused_only c.from_residual.result (bytes_so_far c.args.self) c.in_err-claim.field-0.0 (refused_with (bytes_so_far c.args.self) c.in_err-claim.field-0.0 stops) c.from_residual.ensures.1

pub returns-in_err-claim-clause-only : goal.returns-in_err-claim-clause-only
returns-in_err-claim-clause-only c = λ fresh.
    only_read c.from_residual.result (bytes_so_far c.args.self) c.in_err-claim.field-0.0
    (subst (λ bs. (c.in_err-claim.field-0.0 ≡ refused.NoMemory) ⊎ StopsWith bs c.in_err-claim.field-0.0) (ap bytes_so_far c.self.view_is) c.in_err-claim.ensures.refused)
    c.from_residual.ensures.1

pub returns-in_err-judge-clause-refused : goal.returns-in_err-judge-clause-refused
returns-in_err-judge-clause-refused c = λ fresh.
    let text : bytes_so_far c.args.self ≡ spelling c.in_ok-claim.claim = ap bytes_so_far (sym c.self.view_is) ∙ c.in_ok-claim.ensures.text in
    handed_on c.from_residual-in_err-judge.result (bytes_so_far c.args.self) c.in_err-judge.field-0.0
    (failure_is (bytes_so_far c.args.self) c.in_ok-claim.claim c.in_err-judge.field-0.0 text c.in_ok-claim.ensures.lines c.in_err-judge.ensures.refused) c.from_residual-in_err-judge.ensures.1

pub returns-in_err-judge-clause-refused_only : goal.returns-in_err-judge-clause-refused_only
returns-in_err-judge-clause-refused_only c = λ fresh.
    let text : bytes_so_far c.args.self ≡ spelling c.in_ok-claim.claim = ap bytes_so_far (sym c.self.view_is) ∙ c.in_ok-claim.ensures.text in
    refused_only c.from_residual-in_err-judge.result (bytes_so_far c.args.self) c.in_err-judge.field-0.0
    (failure_is (bytes_so_far c.args.self) c.in_ok-claim.claim c.in_err-judge.field-0.0 text c.in_ok-claim.ensures.lines c.in_err-judge.ensures.refused) c.from_residual-in_err-judge.ensures.1

pub returns-in_err-judge-clause-only : goal.returns-in_err-judge-clause-only
returns-in_err-judge-clause-only c = λ fresh.
    only_judged c.from_residual-in_err-judge.result (bytes_so_far c.args.self) c.in_ok-claim.claim c.in_err-judge.field-0.0
    (ap bytes_so_far (sym c.self.view_is) ∙ c.in_ok-claim.ensures.text) c.in_ok-claim.ensures.lines c.in_err-judge.ensures.refused c.from_residual-in_err-judge.ensures.1

pub returns-clause-valid : goal.returns-clause-valid
returns-clause-valid c =
    verdict_is (bytes_so_far c.args.self) c.in_ok-claim.claim c.verdict.result (ap bytes_so_far (sym c.self.view_is) ∙ c.in_ok-claim.ensures.text) c.in_ok-judge.ensures.valid c.verdict.ensures.value

pub returns-clause-no_plan_is_cheaper : goal.returns-clause-no_plan_is_cheaper
returns-clause-no_plan_is_cheaper c = lower_bound (bytes_so_far c.args.self) c.verdict.result (returns-clause-valid c)

pub returns-clause-refused_only : goal.returns-clause-refused_only
returns-clause-refused_only c = λ fresh. not_refused c.verdict.result (bytes_so_far c.args.self) (returns-clause-valid c)

pub returns-clause-only : goal.returns-clause-only
returns-clause-only c = λ fresh.
    only_shown c.verdict.result (bytes_so_far c.args.self) c.in_ok-claim.claim (ap bytes_so_far (sym c.self.view_is) ∙ c.in_ok-claim.ensures.text) c.in_ok-claim.ensures.lines c.verdict.ensures.value

pub returns-clause-bound_holds : goal.returns-clause-bound_holds
returns-clause-bound_holds c =
    bound_holds c.verdict.result (bytes_so_far c.args.self) c.in_ok-claim.claim (ap bytes_so_far (sym c.self.view_is) ∙ c.in_ok-claim.ensures.text) c.in_ok-claim.ensures.lines c.verdict.ensures.value

pub returns-clause-gap : goal.returns-clause-gap
returns-clause-gap c = gap_is (bytes_so_far c.args.self) c.verdict.result (returns-clause-valid c)
