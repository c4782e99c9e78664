use Rattle.std.proofs.Common.{◌≡◌, ap, ◌∙◌}
use Rattle.certificate.specs.declared.stage.Stage.TheVariants as stage
use Rattle.certificate.specs.DraftFields.{draft_of}
use Rattle.certificate.proofs.Growth.{rows_of}
use Rattle.certificate.proofs.Faultless.{memory_alone}
use Rattle.certificate.proofs.draft.Draft.into_problem.Goals as goal

pub memory_refusal-requires : goal.memory_refusal-requires
memory_refusal-requires c =
    let at_stage : c.self.inside.stage ≡ stage.Rows = ap (λ d. d.stage) c.self.view_is ∙ c.requires.whole.rows in
    record { memory = memory_alone (draft_of c.self.inside) c.in-Err.fault c.self.invariant.sizes (rows_of (draft_of c.self.inside) at_stage c.self.invariant.rows) c.in-Err.ensures.refused }
