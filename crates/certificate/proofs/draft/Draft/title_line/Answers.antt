use Rattle.std.proofs.Common.{◌≡◌, ap, ◌∙◌}
use Rattle.certificate.specs.declared.stage.Stage.TheVariants as stage
use Rattle.certificate.specs.DraftFields.{draft_of}
use Rattle.certificate.specs.Spelling.{title}
use Rattle.certificate.proofs.Taken.{literal_taken}
use Rattle.certificate.proofs.Growth.{title_took}
use Rattle.certificate.proofs.draft.Draft.title_line.Goals as goal

pub returns-clause-took : goal.returns-clause-took
returns-clause-took c =
    let at_stage : c.self.inside.stage ≡ stage.Title = ap (λ d. d.stage) c.self.view_is ∙ c.requires.stage in
    rw (← c.self.view_is) (title_took (draft_of c.self.inside) c.args.bytes.now c.in_ok-rest.rest.now at_stage (literal_taken title c.args.bytes.now c.in_ok-rest.rest.now c.in_ok-rest.ensures.read))
