use Rattle.std.proofs.Common.{ap, ◌∙◌}
use Rattle.std.specs.Prelude.{flat_map}
use Rattle.std.proofs.lemmas.List.Concat.{flat_map_single}
use Rattle.std.proofs.lemmas.Result.{err_from_is_err_and}
use Rattle.network.specs.Arcs.{walk_arcs}
use Rattle.network.proofs.AccessLemmas.{no_walk, walk_of, walk_step}
use Rattle.network.proofs.AddingLemmas.{adds-all, adds-more, adds-none, fails-more, fails-same}
use Rattle.network.proofs.NodeLemmas.{has_stop}
use Rattle.network.proofs.stops.add_walks.Goals as goal

pub loop-walk-init : goal.loop-walk-init
loop-walk-init c = adds-none c.args.arcs.now

pub walk-requires-clause-from : goal.walk-requires-clause-from
walk-requires-clause-from c = rw c.node_in-from.ensures.value (has_stop c.args.town.now c.args.layer c.args.stop c.requires.stop)

pub walk-requires-clause-to : goal.walk-requires-clause-to
walk-requires-clause-to c = rw c.node_in-to.ensures.value (has_stop c.args.town.now c.args.layer _ (c.walks-walk-items.ensures.among c.loop-walk.walk-index no_walk c.loop-walk-test.true))

pub returns-in_err-walk-clause-refused : goal.returns-in_err-walk-clause-refused
returns-in_err-walk-clause-refused c =
    let p = err_from_is_err_and c.from_residual.result c.from_residual.ensures.1 in
    let whole = ap (flat_map (walk_step c.args.town.now c.args.layer c.args.stop)) c.walks-walk-items.ensures.value ∙ flat_map_single (walk_of c.args.town.now c.args.layer c.args.stop) _ in
    rw (p.1, p.2) (fails-same _ (walk_arcs c.args.town.now c.args.layer c.args.stop) c.in_err-walk.field-0.0 whole
    (fails-more (walk_step c.args.town.now c.args.layer c.args.stop) c.walks-walk-items.result.now c.loop-walk.walk-index no_walk c.args.arcs.now c.loop-walk.arcs c.in_err-walk.field-0.0
    c.loop-walk-test.true c.loop-walk.invariant c.in_err-walk.ensures.refused))

pub loop-walk-preserved : goal.loop-walk-preserved
loop-walk-preserved c =
    adds-more (walk_step c.args.town.now c.args.layer c.args.stop) c.walks-walk-items.result.now c.loop-walk.walk-index no_walk c.args.arcs.now c.loop-walk.arcs c.walk.new.self
    c.loop-walk-test.true c.loop-walk.invariant (rw (c.node_in-from.ensures.value, c.node_in-to.ensures.value) at c.in_ok-walk.ensures.added)

pub returns-clause-added : goal.returns-clause-added
returns-clause-added c =
    adds-all (walk_step c.args.town.now c.args.layer c.args.stop) c.walks-walk-items.result.now c.loop-walk.walk-index c.args.arcs.now c.loop-walk.arcs (walk_arcs c.args.town.now c.args.layer c.args.stop)
    c.loop-walk-test.false c.loop-walk.invariant
    (ap (flat_map (walk_step c.args.town.now c.args.layer c.args.stop)) c.walks-walk-items.ensures.value ∙ flat_map_single (walk_of c.args.town.now c.args.layer c.args.stop) _)
