use Rattle.std.proofs.Common.{◌-◌}
use Rattle.assign.specs.Marks.{AreReachedFrom}
use Rattle.assign.proofs.marking.Marking.find_from.Given as goal

-- the marked nodes are reached from the node
abbrev pub invariant-loop-done : goal.invariant-loop-done
invariant-loop-done l = AreReachedFrom l.net l.node l.done l.self

abbrev pub decreases-loop-done : goal.decreases-loop-done
decreases-loop-done l = l.net.nodes - l.done
