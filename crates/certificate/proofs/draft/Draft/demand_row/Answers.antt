use Rattle.std.proofs.Common.{◌≡◌, ◌<◌, length, Ok, ap, ◌∙◌, subst, sym}
use Rattle.std.specs.Prelude.{◌==◌}
use Rattle.certificate.specs.Lines.{demand_line_at}
use Rattle.certificate.specs.declared.stage.Stage.TheVariants as stage
use Rattle.certificate.specs.DraftFields.{draft_of}
use Rattle.certificate.specs.Draft.{DraftData}
use Rattle.certificate.specs.Kept.{HasRows}
use Rattle.certificate.proofs.Taken.{demand_line_taken}
use Rattle.certificate.proofs.Growth.{rows_of, demand_took}
use Rattle.certificate.proofs.draft.Draft.demand_row.Goals as goal

pub returns-clause-took : goal.returns-clause-took
returns-clause-took c =
    let at_stage : c.self.inside.stage ≡ stage.Rows = ap (λ d. d.stage) c.self.view_is ∙ c.requires.stage in
    let rows : HasRows (draft_of c.self.inside) = rows_of (draft_of c.self.inside) at_stage c.self.invariant.rows in
    let next : length (draft_of c.self.inside).demand < (draft_of c.self.inside).nodes = subst (λ (d : DraftData). length d.demand < d.nodes) (sym c.self.view_is) c.requires.next in
    let read : demand_line_at (length c.self.inside.rows.demand.items == c.self.inside.destination) c.self.inside.units c.args.bytes.now ≡ Ok (c.in_ok-count.count, c.in_ok-count.rest.now) = cc (c.in_ok-count.ensures.read, c.len.ensures) in
    rw (c.push_reserved.ensures.items, ← c.self.view_is) (demand_took (draft_of c.self.inside) c.in_ok-count.count _ c.args.bytes.now c.in_ok-count.rest.now at_stage rows next (demand_line_taken (length c.self.inside.rows.demand.items == c.self.inside.destination) c.self.inside.units c.args.bytes.now (c.in_ok-count.count, c.in_ok-count.rest.now) read).parts)
