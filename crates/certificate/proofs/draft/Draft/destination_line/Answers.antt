use Rattle.std.proofs.Common.{◌≡◌, ap, ◌∙◌}
use Rattle.certificate.specs.declared.stage.Stage.TheVariants as stage
use Rattle.certificate.specs.DraftFields.{draft_of}
use Rattle.certificate.proofs.Taken.{destination_line_taken}
use Rattle.certificate.proofs.Growth.{destination_took, no_rows_of}
use Rattle.certificate.proofs.draft.Draft.destination_line.Goals as goal

pub returns-clause-took : goal.returns-clause-took
returns-clause-took c =
    let at_stage : c.self.inside.stage ≡ stage.Destination = ap (λ d. d.stage) c.self.view_is ∙ c.requires.stage in
    rw (← c.self.view_is) (destination_took (draft_of c.self.inside) c.in_ok-number.number c.args.bytes.now c.in_ok-number.rest.now at_stage (no_rows_of (draft_of c.self.inside) at_stage c.self.invariant.rows) (destination_line_taken c.self.inside.nodes c.args.bytes.now (c.in_ok-number.number, c.in_ok-number.rest.now) c.in_ok-number.ensures.read))
