use Rattle.std.proofs.Common.{◌≡◌, ◌≤◌, ◌+◌, ◌*◌, ◌^◌}
use Rattle.network.specs.Kept.{nodes_to}
use Rattle.network.proofs.kept.count_nodes.Given as goal

abbrev pub invariant-loop-number : goal.invariant-loop-number
invariant-loop-number l = record { counted : l.count ≡ nodes_to l.given l.number; within : l.count ≤ 2 ^ 34 + l.number * 2 ^ 65 }
