use Rattle.std.proofs.Common.{◌≡◌, ◌<◌, [], length, ap, ◌∙◌, subst, sym}
use Rattle.lp_model.specs.Faults.{arc_faults, tail_before}
use Rattle.certificate.specs.declared.stage.Stage.TheVariants as stage
use Rattle.certificate.specs.DraftFields.{draft_of, HasRoomAt}
use Rattle.certificate.specs.Rows.{HasRoomFor}
use Rattle.certificate.specs.Draft.{DraftData, network_so_far}
use Rattle.certificate.specs.Kept.{HasRows}
use Rattle.certificate.proofs.Taken.{arc_line_taken}
use Rattle.certificate.proofs.Growth.{rows_of, arc_took}
use Rattle.certificate.proofs.Keeping.{arc_keeps}
use Rattle.certificate.proofs.draft.Draft.arc_row.Goals as goal

pub invariant_of-self : goal.invariant_of-self
invariant_of-self c =
    let at_stage : c.self.inside.stage ≡ stage.Rows = ap (λ d. d.stage) c.self.view_is ∙ c.requires.stage in
    let next : length c.self.inside.rows.arcs.items < c.self.inside.arc_count = subst (λ (d : DraftData). length d.arcs < d.arc_count) (sym c.self.view_is) c.requires.next in
    let before : c.last_tail-before.result ≡ tail_before (network_so_far (draft_of c.self.inside)) (length c.self.inside.rows.arcs.items) = cc in
    let sound : arc_faults c.self.inside.nodes (tail_before (network_so_far (draft_of c.self.inside)) (length c.self.inside.rows.arcs.items)) (length c.self.inside.rows.arcs.items) c.in_ok-arc.arc ≡ [] =
    cc (c.in_ok-arc.ensures.sound, before, c.len-number.ensures) in
    let room : HasRoomFor c.self.inside.nodes c.self.inside.arc_count c.self.inside.rows = subst (λ s. HasRoomAt s c.self.inside) at_stage c.self.invariant.room in
    record {
      sizes = record { nodes = c.self.invariant.sizes.nodes; arcs = c.self.invariant.sizes.arcs; k = c.self.invariant.sizes.k };
      rows = rw c.push_reserved.ensures.items (arc_keeps (draft_of c.self.inside) c.in_ok-arc.arc at_stage c.self.invariant.rows next sound);
      room = rw at_stage (record { arcs = rw c.push_reserved.ensures.capacity room.arcs; demand = room.demand; labels = room.labels; volumes = room.volumes; waits = room.waits });
    }

pub returns-clause-took : goal.returns-clause-took
returns-clause-took c =
    let at_stage : c.self.inside.stage ≡ stage.Rows = ap (λ d. d.stage) c.self.view_is ∙ c.requires.stage in
    let rows : HasRows (draft_of c.self.inside) = rows_of (draft_of c.self.inside) at_stage c.self.invariant.rows in
    let next : length (draft_of c.self.inside).arcs < (draft_of c.self.inside).arc_count = subst (λ (d : DraftData). length d.arcs < d.arc_count) (sym c.self.view_is) c.requires.next in
    rw (c.push_reserved.ensures.items, ← c.self.view_is) (arc_took (draft_of c.self.inside) c.in_ok-arc.arc c.args.bytes.now c.in_ok-arc.rest.now at_stage rows next
    (arc_line_taken c.self.inside.nodes c.last_tail-before.result c.len-number.result c.args.bytes.now (c.in_ok-arc.arc, c.in_ok-arc.rest.now) c.in_ok-arc.ensures.read))
