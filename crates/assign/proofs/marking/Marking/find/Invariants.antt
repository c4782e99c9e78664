use Rattle.std.proofs.Common.{◌-◌}
use Rattle.assign.specs.Marks.{AreOnTheWay}
use Rattle.assign.proofs.marking.Marking.find.Given as goal

-- the tails of the arcs to the nodes so far are marked
abbrev pub invariant-loop-done : goal.invariant-loop-done
invariant-loop-done l = AreOnTheWay l.net l.dest l.done l.self

abbrev pub decreases-loop-done : goal.decreases-loop-done
decreases-loop-done l = l.net.nodes - l.done
