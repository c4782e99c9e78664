use Rattle.std.proofs.Common.{◌≤◌}
use Rattle.assign.specs.Partway.{AreReady, IsAssignedBelow}
use Rattle.assign.specs.Rooms.{IsRoom}
use Rattle.assign.proofs.assigning.visit_all.Given as goal

-- the zones so far are assigned
abbrev pub invariant-loop-zone : goal.invariant-loop-zone
invariant-loop-zone g l = record {
  ready : AreReady l.city l.pairs l.zone l.place l.sums;
  room : IsRoom l.city.net l.room;
  done : IsAssignedBelow l.city l.pairs l.zone l.place (g.V.Visitor.visits l.initial.each) (g.V.Visitor.visits l.each) l.sums;
  count : g.V.Counted.count l.initial.each ≤ g.V.Counted.count l.each;
}
