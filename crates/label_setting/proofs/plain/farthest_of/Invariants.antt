use Rattle.label_setting.specs.Plain.{IsFarthestTo}
use Rattle.label_setting.proofs.plain.farthest_of.Given as goal

abbrev pub invariant-loop-node : goal.invariant-loop-node
invariant-loop-node l = IsFarthestTo l.reached l.labels l.node l.far
