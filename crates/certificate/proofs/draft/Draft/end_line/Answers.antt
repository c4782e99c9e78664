use Rattle.std.proofs.Common.{◌≡◌, ap, ◌∙◌}
use Rattle.certificate.specs.declared.stage.Stage.TheVariants as stage
use Rattle.certificate.specs.DraftFields.{draft_of}
use Rattle.certificate.specs.Spelling.{last_line}
use Rattle.certificate.proofs.Taken.{literal_taken}
use Rattle.certificate.proofs.Growth.{end_took}
use Rattle.certificate.proofs.draft.Draft.end_line.Goals as goal

pub returns-clause-took : goal.returns-clause-took
returns-clause-took c =
    let at_stage : c.self.inside.stage ≡ stage.Rows = ap (λ d. d.stage) c.self.view_is ∙ c.requires.stage in
    rw (← c.self.view_is) (end_took (draft_of c.self.inside) c.args.bytes.now c.in_ok-rest.rest.now at_stage (literal_taken last_line c.args.bytes.now c.in_ok-rest.rest.now c.in_ok-rest.ensures.read))
