use Rattle.std.proofs.Common.{◌≡◌, ℕ, ◌<◌, ◌-◌, arith, length, subst}
use Rattle.std.specs.Prelude.{flat_map}
use Rattle.std.specs.List.{range_with_len}
use Rattle.std.proofs.lemmas.Result.{err_from_is_err_and}
use Rattle.network.specs.Adding.{Adds}
use Rattle.network.specs.ArcParts.{segment_arcs}
use Rattle.network.specs.Sources.{kept_line}
use Rattle.network.proofs.AddingLemmas.{adds-next, adds-none, fails-next}
use Rattle.network.proofs.riding.add_line.Goals as goal

pub loop-place-init : goal.loop-place-init
loop-place-init c = adds-none c.args.arcs.now

pub returns-in_err-add_segment-clause-refused : goal.returns-in_err-add_segment-clause-refused
returns-in_err-add_segment-clause-refused c =
    let p = err_from_is_err_and c.from_residual.result c.from_residual.ensures.1 in
    let lt : c.loop-place.place < length (kept_line c.args.town.now c.args.line).places - 1 = omega arith in
    rw (p.1, p.2) (fails-next (segment_arcs c.args.town.now c.args.line) c.loop-place.place (length (kept_line c.args.town.now c.args.line).places - 1) c.args.arcs.now c.loop-place.arcs c.in_err-add_segment.field-0.0 lt c.loop-place.invariant c.in_err-add_segment.ensures.refused)

pub loop-place-preserved : goal.loop-place-preserved
loop-place-preserved c = adds-next (segment_arcs c.args.town.now c.args.line) c.loop-place.place c.args.arcs.now c.loop-place.arcs c.add_segment.new.arcs c.loop-place.invariant c.in_ok-add_segment.ensures.added

pub returns-clause-added : goal.returns-clause-added
returns-clause-added c =
    let e : c.loop-place.place ≡ length (kept_line c.args.town.now c.args.line).places - 1 = omega arith in
    subst (λ (n : ℕ). Adds c.args.arcs.now c.loop-place.arcs (flat_map (segment_arcs c.args.town.now c.args.line) (range_with_len 0 n))) e c.loop-place.invariant
