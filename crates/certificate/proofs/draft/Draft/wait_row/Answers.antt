use Rattle.std.proofs.Common.{◌≡◌, ap, ◌∙◌}
use Rattle.certificate.specs.declared.stage.Stage.TheVariants as stage
use Rattle.certificate.specs.DraftFields.{draft_of}
use Rattle.certificate.specs.Kept.{HasRows}
use Rattle.std.specs.Prelude.{codes}
use Rattle.certificate.specs.declared.refused.Limit.TheVariants as limit
use Rattle.certificate.proofs.Taken.{number_line_taken}
use Rattle.certificate.proofs.Growth.{rows_of, wait_took}
use Rattle.certificate.proofs.draft.Draft.wait_row.Goals as goal

pub returns-clause-took : goal.returns-clause-took
returns-clause-took c =
    let at_stage : c.self.inside.stage ≡ stage.Rows = ap (λ d. d.stage) c.self.view_is ∙ c.requires.stage in
    let rows : HasRows (draft_of c.self.inside) = rows_of (draft_of c.self.inside) at_stage c.self.invariant.rows in
    rw (c.push_reserved.ensures.items, ← c.self.view_is) (wait_took (draft_of c.self.inside) c.in_ok-wait.wait c.args.bytes.now c.in_ok-wait.rest.now at_stage (number_line_taken (codes "q") limit.Wait c.args.bytes.now (c.in_ok-wait.wait, c.in_ok-wait.rest.now) c.in_ok-wait.ensures.read))
