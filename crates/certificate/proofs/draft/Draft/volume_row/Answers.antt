use Rattle.std.proofs.Common.{◌≡◌, ◌<◌, length, ap, ◌∙◌, subst, sym}
use Rattle.certificate.specs.declared.stage.Stage.TheVariants as stage
use Rattle.certificate.specs.DraftFields.{draft_of}
use Rattle.certificate.specs.Draft.{DraftData}
use Rattle.certificate.specs.Kept.{HasRows}
use Rattle.std.specs.Prelude.{codes}
use Rattle.certificate.specs.declared.refused.Limit.TheVariants as limit
use Rattle.certificate.proofs.Taken.{number_line_taken}
use Rattle.certificate.proofs.Growth.{rows_of, volume_took}
use Rattle.certificate.proofs.draft.Draft.volume_row.Goals as goal

pub returns-clause-took : goal.returns-clause-took
returns-clause-took c =
    let at_stage : c.self.inside.stage ≡ stage.Rows = ap (λ d. d.stage) c.self.view_is ∙ c.requires.stage in
    let rows : HasRows (draft_of c.self.inside) = rows_of (draft_of c.self.inside) at_stage c.self.invariant.rows in
    let next : length (draft_of c.self.inside).volumes < (draft_of c.self.inside).arc_count = subst (λ (d : DraftData). length d.volumes < d.arc_count) (sym c.self.view_is) c.requires.next in
    rw (c.push_reserved.ensures.items, ← c.self.view_is) (volume_took (draft_of c.self.inside) c.in_ok-volume.volume c.args.bytes.now c.in_ok-volume.rest.now at_stage rows next (number_line_taken (codes "v") limit.Volume c.args.bytes.now (c.in_ok-volume.volume, c.in_ok-volume.rest.now) c.in_ok-volume.ensures.read))
