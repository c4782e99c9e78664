use Rattle.std.proofs.Common.{◌++◌, sym}
use Rattle.std.proofs.lemmas.Result.{err_from_is_err_and, on_ok_weaker}
use Rattle.network.specs.ArcParts.{line_part, stop_part, zone_part}
use Rattle.network.specs.Arcs.{arcs_of}
use Rattle.network.proofs.AddingLemmas.{adds-same, adds-then, fails-after, fails-first, fails-same, fails-then, fails-with}
use Rattle.network.proofs.WholeLemmas.{arcs-parts}
use Rattle.network.proofs.city_arcs.add_arcs.Goals as goal

pub returns-in_err-add_zones-clause-refused : goal.returns-in_err-add_zones-clause-refused
returns-in_err-add_zones-clause-refused c =
    let p = err_from_is_err_and c.from_residual.result c.from_residual.ensures.1 in
    rw (p.1, p.2) (fails-same (zone_part c.args.town.now ++ (stop_part c.args.town.now ++ line_part c.args.town.now)) (arcs_of c.args.town.now) c.in_err-add_zones.field-0.0 (sym (arcs-parts c.args.town.now))
    (fails-first (zone_part c.args.town.now) (stop_part c.args.town.now ++ line_part c.args.town.now) c.in_err-add_zones.field-0.0 c.in_err-add_zones.ensures.refused))

pub returns-in_err-add_stops-clause-refused : goal.returns-in_err-add_stops-clause-refused
returns-in_err-add_stops-clause-refused c =
    let p = err_from_is_err_and c.from_residual-in_err-add_stops.result c.from_residual-in_err-add_stops.ensures.1 in
    rw (p.1, p.2) (fails-same (zone_part c.args.town.now ++ (stop_part c.args.town.now ++ line_part c.args.town.now)) (arcs_of c.args.town.now) c.in_err-add_stops.field-0.0 (sym (arcs-parts c.args.town.now))
    (fails-then c.args.arcs.now c.add_zones.new.arcs (zone_part c.args.town.now) (stop_part c.args.town.now ++ line_part c.args.town.now) c.in_err-add_stops.field-0.0 c.in_ok-add_zones.ensures.added
    (fails-first (stop_part c.args.town.now) (line_part c.args.town.now) c.in_err-add_stops.field-0.0 c.in_err-add_stops.ensures.refused)))

pub returns-clause-added : goal.returns-clause-added
returns-clause-added c =
    on_ok_weaker c.add_lines.result (λ last. adds-same c.args.arcs.now c.add_lines.new.arcs (zone_part c.args.town.now ++ (stop_part c.args.town.now ++ line_part c.args.town.now)) (arcs_of c.args.town.now) (sym (arcs-parts c.args.town.now))
    (adds-then c.args.arcs.now c.add_zones.new.arcs c.add_lines.new.arcs (zone_part c.args.town.now) (stop_part c.args.town.now ++ line_part c.args.town.now) c.in_ok-add_zones.ensures.added
    (adds-then c.add_zones.new.arcs c.add_stops.new.arcs c.add_lines.new.arcs (stop_part c.args.town.now) (line_part c.args.town.now) c.in_ok-add_stops.ensures.added last)))
    c.add_lines.ensures.added

pub returns-clause-refused : goal.returns-clause-refused
returns-clause-refused c =
    fails-with (zone_part c.args.town.now ++ (stop_part c.args.town.now ++ line_part c.args.town.now)) (arcs_of c.args.town.now) c.add_lines.result (sym (arcs-parts c.args.town.now))
    (fails-after c.args.arcs.now c.add_zones.new.arcs (zone_part c.args.town.now) (stop_part c.args.town.now ++ line_part c.args.town.now) c.add_lines.result c.in_ok-add_zones.ensures.added
    (fails-after c.add_zones.new.arcs c.add_stops.new.arcs (stop_part c.args.town.now) (line_part c.args.town.now) c.add_lines.result c.in_ok-add_stops.ensures.added c.add_lines.ensures.refused))
