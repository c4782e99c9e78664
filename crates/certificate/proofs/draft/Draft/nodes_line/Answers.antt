use Rattle.std.proofs.Common.{◌≡◌, ap, ◌∙◌}
use Rattle.certificate.specs.declared.stage.Stage.TheVariants as stage
use Rattle.certificate.specs.DraftFields.{draft_of}
use Rattle.std.specs.Prelude.{codes}
use Rattle.certificate.specs.declared.refused.Limit.TheVariants as limit
use Rattle.certificate.proofs.Taken.{number_line_taken}
use Rattle.certificate.proofs.Growth.{nodes_took}
use Rattle.certificate.proofs.draft.Draft.nodes_line.Goals as goal

pub returns-clause-took : goal.returns-clause-took
returns-clause-took c =
    let at_stage : c.self.inside.stage ≡ stage.Nodes = ap (λ d. d.stage) c.self.view_is ∙ c.requires.stage in
    rw (← c.self.view_is) (nodes_took (draft_of c.self.inside) c.in_ok-number.number c.args.bytes.now c.in_ok-number.rest.now at_stage (number_line_taken (codes "nodes") limit.Nodes c.args.bytes.now (c.in_ok-number.number, c.in_ok-number.rest.now) c.in_ok-number.ensures.read))
