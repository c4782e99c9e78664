use Rattle.std.proofs.lemmas.Result.{err_from_is_err_and, on_ok_weaker}
use Rattle.network.specs.Arcs.{stop_arcs}
use Rattle.network.proofs.AddingLemmas.{adds-then, fails-after, fails-first}
use Rattle.network.proofs.stops.add_layers.Goals as goal
use Rattle.scenarios.specs.declared.layer.Layer.TheVariants as layer

pub returns-in_err-add_stop-clause-refused : goal.returns-in_err-add_stop-clause-refused
returns-in_err-add_stop-clause-refused c =
    let p = err_from_is_err_and c.from_residual.result c.from_residual.ensures.1 in
    rw (p.1, p.2) (fails-first (stop_arcs c.args.town.now layer.First c.args.stop) (stop_arcs c.args.town.now layer.Later c.args.stop) c.in_err-add_stop.field-0.0 c.in_err-add_stop.ensures.refused)

pub returns-clause-added : goal.returns-clause-added
returns-clause-added c =
    on_ok_weaker c.add_stop-2.result (λ last. adds-then c.args.arcs.now c.add_stop.new.arcs c.add_stop-2.new.arcs _ _ c.in_ok-add_stop.ensures.added last) c.add_stop-2.ensures.added

pub returns-clause-refused : goal.returns-clause-refused
returns-clause-refused c =
    fails-after c.args.arcs.now c.add_stop.new.arcs (stop_arcs c.args.town.now layer.First c.args.stop) (stop_arcs c.args.town.now layer.Later c.args.stop)
    c.add_stop-2.result c.in_ok-add_stop.ensures.added c.add_stop-2.ensures.refused
