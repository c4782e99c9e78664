use Rattle.std.proofs.Common.{◌≡◌, ◌∷◌, [], true, refl, arith, rules}
use Rattle.std.specs.List.{list_any}
use Rattle.assign.specs.Partway.{passed, visited}
use Rattle.assign.specs.Rooms.{visit_in}
use Rattle.assign.specs.Visits.{AreShown, goal_of, leads_to}
use Rattle.assign.proofs.ZoneLemmas.{unwanted, wanted}
use Rattle.assign.proofs.assigning.visit_zone.Goals as goal

pub returns-then-place-end-clause-done : goal.returns-then-place-end-clause-done
returns-then-place-end-clause-done g c =
    passed (unwanted c.args.pairs.now c.args.zone c.args.place c.end_of-end.result c.end_of-end.ensures.span c.if-place-end.true) refl refl

pub returns-in_err-visit-clause-wanted : goal.returns-in_err-visit-clause-wanted
returns-in_err-visit-clause-wanted g c =
    let rises = c.end_of-end.ensures.span.rises in
    let some : list_any (leads_to c.args.zone) c.args.pairs.now ≡ true =
    wanted c.args.pairs.now c.args.zone c.args.place c.end_of-end.result c.end_of-end.ensures.span (omega arith) in
    search rules

pub returns-clause-done : goal.returns-clause-done
returns-clause-done g c =
    let rises = c.end_of-end.ensures.span.rises in
    let some : list_any (leads_to c.args.zone) c.args.pairs.now ≡ true =
    wanted c.args.pairs.now c.args.zone c.args.place c.end_of-end.result c.end_of-end.ensures.span (omega arith) in
    let shown : AreShown (g.V.Visitor.visits c.args.each.now) (g.V.Visitor.visits c.visit.new.self) (visit_in (goal_of c.args.city.now c.args.zone) c.add_zone.new.room ∷ []) = search rules in
    visited (visit_in (goal_of c.args.city.now c.args.zone) c.add_zone.new.room) some c.add_zone.ensures.visit shown c.add_zone.ensures.added
