use Rattle.std.proofs.Common.{◌≡◌, false}
use Rattle.scenarios.specs.Shown.{many}
use Rattle.scenarios.proofs.scenario.marks.Given as goal

abbrev pub invariant-loop : goal.invariant-loop
invariant-loop l = l.marks.items ≡ many l.counter false
