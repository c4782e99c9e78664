use Rattle.std.proofs.Common.{◌≡◌, ℕ, length, subst, arith, rules}
use Rattle.assign.specs.Assignments.{StopsEarly}
use Rattle.assign.specs.Partway.{IsAssignedBelow}
use Rattle.assign.specs.Spans.{PartsAt}
use Rattle.assign.proofs.ReachLemmas.{parts_end}
use Rattle.assign.proofs.ZoneLemmas.{stops_early, zone_more}
use Rattle.assign.proofs.assigning.visit_all.Goals as goal

pub returns-in_err-place-clause-err : goal.returns-in_err-place-clause-err
returns-in_err-place-clause-err g c =
    let early : StopsEarly c.args.city.now c.args.pairs.now (g.V.Visitor.visits c.args.each.now) (g.V.Visitor.visits c.visit_zone.new.each) =
    stops_early c.args.city.now c.args.pairs.now c.loop-zone.zone c.loop-zone.place (g.V.Visitor.visits c.args.each.now) (g.V.Visitor.visits c.loop-zone.each) (g.V.Visitor.visits c.visit_zone.new.each)
    c.loop-zone.sums c.loop-zone.invariant.done (omega arith) c.in_err-place.ensures.wanted c.in_err-place.ensures.untold in
    search rules

pub loop-zone-preserved : goal.loop-zone-preserved
loop-zone-preserved g c = record {
  ready = c.in_ok-place.ensures.ready;
  room = c.in_ok-place.ensures.room;
  done = zone_more c.args.city.now c.args.pairs.now c.loop-zone.zone c.loop-zone.place c.in_ok-place.place
      (g.V.Visitor.visits c.args.each.now) (g.V.Visitor.visits c.loop-zone.each) (g.V.Visitor.visits c.visit_zone.new.each) c.loop-zone.sums c.visit_zone.new.sums
      c.loop-zone.invariant.done c.in_ok-place.ensures.ready c.in_ok-place.ensures.done;
  count = let more = c.in_ok-place.ensures.count in omega arith;
}

pub returns-clause-ok : goal.returns-clause-ok
returns-clause-ok g c =
    let done : c.loop-zone.zone ≡ c.args.city.now.zones = omega arith in
    let parts : PartsAt c.args.pairs.now c.args.city.now.zones c.loop-zone.place =
    subst (λ (zone : ℕ). PartsAt c.args.pairs.now zone c.loop-zone.place) done c.loop-zone.invariant.ready.parts in
    let all : c.loop-zone.place ≡ length c.args.pairs.now = parts_end c.args.pairs.now c.args.city.now.zones c.loop-zone.place c.requires.pairs parts in
    subst (λ (place : ℕ). IsAssignedBelow c.args.city.now c.args.pairs.now c.args.city.now.zones place (g.V.Visitor.visits c.args.each.now) (g.V.Visitor.visits c.loop-zone.each) c.loop-zone.sums) all
    (subst (λ (zone : ℕ). IsAssignedBelow c.args.city.now c.args.pairs.now zone c.loop-zone.place (g.V.Visitor.visits c.args.each.now) (g.V.Visitor.visits c.loop-zone.each) c.loop-zone.sums) done c.loop-zone.invariant.done)
