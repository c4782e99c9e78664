use Rattle.std.proofs.Common.{◌≡◌, ℕ, ◌<◌, arith, subst}
use Rattle.std.specs.Prelude.{flat_map}
use Rattle.std.specs.List.{range_with_len}
use Rattle.std.proofs.lemmas.Result.{err_from_is_err_and}
use Rattle.network.specs.Adding.{Adds}
use Rattle.network.specs.ArcParts.{stop_node_arcs, stop_part}
use Rattle.network.specs.Sources.{stop_count}
use Rattle.network.proofs.AddingLemmas.{adds-next, adds-none, fails-next}
use Rattle.network.proofs.stops.add_stops.Goals as goal

pub loop-stop-init : goal.loop-stop-init
loop-stop-init c = adds-none c.args.arcs.now

pub returns-in_err-add_layers-clause-refused : goal.returns-in_err-add_layers-clause-refused
unfolding stop_part
returns-in_err-add_layers-clause-refused c =
    let p = err_from_is_err_and c.from_residual.result c.from_residual.ensures.1 in
    let lt : c.loop-stop.stop < stop_count c.args.town.now = omega arith in
    rw (p.1, p.2) (fails-next (stop_node_arcs c.args.town.now) c.loop-stop.stop (stop_count c.args.town.now) c.args.arcs.now c.loop-stop.arcs c.in_err-add_layers.field-0.0 lt c.loop-stop.invariant c.in_err-add_layers.ensures.refused)

pub loop-stop-preserved : goal.loop-stop-preserved
loop-stop-preserved c = adds-next (stop_node_arcs c.args.town.now) c.loop-stop.stop c.args.arcs.now c.loop-stop.arcs c.add_layers.new.arcs c.loop-stop.invariant c.in_ok-add_layers.ensures.added

pub returns-clause-added : goal.returns-clause-added
unfolding stop_part
returns-clause-added c =
    let e : c.loop-stop.stop ≡ stop_count c.args.town.now = omega arith in
    subst (λ (n : ℕ). Adds c.args.arcs.now c.loop-stop.arcs (flat_map (stop_node_arcs c.args.town.now) (range_with_len 0 n))) e c.loop-stop.invariant
