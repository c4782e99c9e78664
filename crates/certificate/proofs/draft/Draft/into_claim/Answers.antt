use Rattle.std.proofs.Common.{◌≡◌, ap, ◌∙◌}
use Rattle.certificate.specs.declared.stage.Stage.TheVariants as stage
use Rattle.certificate.specs.DraftFields.{draft_of}
use Rattle.certificate.proofs.Faultless.{only_memory}
use Rattle.certificate.proofs.draft.Draft.into_claim.Goals as goal

pub memory_refusal-requires : goal.memory_refusal-requires
memory_refusal-requires c =
    let done : c.self.inside.stage ≡ stage.Done = ap (λ d. d.stage) c.self.view_is ∙ c.requires.done in
    record { memory = only_memory (draft_of c.self.inside) c.in-Err.fault done c.self.invariant.sizes c.self.invariant.rows c.in-Err.ensures.refused }
