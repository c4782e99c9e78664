use Rattle.std.proofs.Common.{◌++◌}
use Rattle.std.proofs.lemmas.Result.{err_from_is_err_and, on_ok_weaker}
use Rattle.network.specs.Arcs.{board_arcs, egress_arcs, walk_arcs}
use Rattle.network.proofs.AddingLemmas.{adds-then, fails-after, fails-first, fails-then}
use Rattle.network.proofs.stops.add_stop.Goals as goal

pub returns-in_err-add_egress-clause-refused : goal.returns-in_err-add_egress-clause-refused
returns-in_err-add_egress-clause-refused c =
    let p = err_from_is_err_and c.from_residual.result c.from_residual.ensures.1 in
    rw (p.1, p.2) (fails-first (egress_arcs c.args.town.now c.args.layer c.args.stop ++ walk_arcs c.args.town.now c.args.layer c.args.stop) (board_arcs c.args.town.now c.args.layer c.args.stop) c.in_err-add_egress.field-0.0
    (fails-first (egress_arcs c.args.town.now c.args.layer c.args.stop) (walk_arcs c.args.town.now c.args.layer c.args.stop) c.in_err-add_egress.field-0.0 c.in_err-add_egress.ensures.refused))

pub returns-in_err-add_walks-clause-refused : goal.returns-in_err-add_walks-clause-refused
returns-in_err-add_walks-clause-refused c =
    let p = err_from_is_err_and c.from_residual-in_err-add_walks.result c.from_residual-in_err-add_walks.ensures.1 in
    rw (p.1, p.2) (fails-first (egress_arcs c.args.town.now c.args.layer c.args.stop ++ walk_arcs c.args.town.now c.args.layer c.args.stop) (board_arcs c.args.town.now c.args.layer c.args.stop) c.in_err-add_walks.field-0.0
    (fails-then c.args.arcs.now c.add_egress.new.arcs (egress_arcs c.args.town.now c.args.layer c.args.stop) (walk_arcs c.args.town.now c.args.layer c.args.stop) c.in_err-add_walks.field-0.0 c.in_ok-add_egress.ensures.added c.in_err-add_walks.ensures.refused))

pub returns-clause-added : goal.returns-clause-added
returns-clause-added c =
    let before = adds-then c.args.arcs.now c.add_egress.new.arcs c.add_walks.new.arcs _ _ c.in_ok-add_egress.ensures.added c.in_ok-add_walks.ensures.added in
    on_ok_weaker c.add_boardings.result (λ last. adds-then c.args.arcs.now c.add_walks.new.arcs c.add_boardings.new.arcs _ _ before last) c.add_boardings.ensures.added

pub returns-clause-refused : goal.returns-clause-refused
returns-clause-refused c =
    let before = adds-then c.args.arcs.now c.add_egress.new.arcs c.add_walks.new.arcs _ _ c.in_ok-add_egress.ensures.added c.in_ok-add_walks.ensures.added in
    fails-after c.args.arcs.now c.add_walks.new.arcs (egress_arcs c.args.town.now c.args.layer c.args.stop ++ walk_arcs c.args.town.now c.args.layer c.args.stop) (board_arcs c.args.town.now c.args.layer c.args.stop)
    c.add_boardings.result before c.add_boardings.ensures.refused
