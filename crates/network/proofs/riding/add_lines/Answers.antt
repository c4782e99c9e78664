use Rattle.std.proofs.Common.{◌≡◌, ℕ, ◌<◌, arith, subst}
use Rattle.std.specs.Prelude.{flat_map}
use Rattle.std.specs.List.{range_with_len}
use Rattle.std.proofs.lemmas.Result.{err_from_is_err_and}
use Rattle.network.specs.Adding.{Adds}
use Rattle.network.specs.ArcParts.{line_arcs, line_part}
use Rattle.network.specs.Sources.{kept_count}
use Rattle.network.proofs.AddingLemmas.{adds-next, adds-none, fails-next}
use Rattle.network.proofs.riding.add_lines.Goals as goal

pub loop-line-init : goal.loop-line-init
loop-line-init c = adds-none c.args.arcs.now

pub returns-in_err-add_line-clause-refused : goal.returns-in_err-add_line-clause-refused
unfolding line_part
returns-in_err-add_line-clause-refused c =
    let p = err_from_is_err_and c.from_residual.result c.from_residual.ensures.1 in
    let lt : c.loop-line.line < kept_count c.args.town.now = omega arith in
    rw (p.1, p.2) (fails-next (line_arcs c.args.town.now) c.loop-line.line (kept_count c.args.town.now) c.args.arcs.now c.loop-line.arcs c.in_err-add_line.field-0.0 lt c.loop-line.invariant c.in_err-add_line.ensures.refused)

pub loop-line-preserved : goal.loop-line-preserved
loop-line-preserved c = adds-next (line_arcs c.args.town.now) c.loop-line.line c.args.arcs.now c.loop-line.arcs c.add_line.new.arcs c.loop-line.invariant c.in_ok-add_line.ensures.added

pub returns-clause-added : goal.returns-clause-added
unfolding line_part
returns-clause-added c =
    let e : c.loop-line.line ≡ kept_count c.args.town.now = omega arith in
    subst (λ (n : ℕ). Adds c.args.arcs.now c.loop-line.arcs (flat_map (line_arcs c.args.town.now) (range_with_len 0 n))) e c.loop-line.invariant
