use Rattle.std.proofs.Common.{◌≡◌}
use Rattle.scenarios.specs.Shown.{many}
use Rattle.scenarios.proofs.scenario.numbers.Given as goal

abbrev pub invariant-loop : goal.invariant-loop
invariant-loop l = l.numbers.items ≡ many l.counter l.number
