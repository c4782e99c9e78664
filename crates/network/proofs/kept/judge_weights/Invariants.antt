use Rattle.std.proofs.Common.{◌<◌, ◌≤◌, ℕ}
use Rattle.definitions.specs.declared.limits.TheConstants.{WEIGHT_LIMIT}
use Rattle.network.specs.Sources.{weight_in}
use Rattle.network.proofs.kept.judge_weights.Given as goal

abbrev pub invariant-loop-number : goal.invariant-loop-number
invariant-loop-number l = (k : ℕ) → k < l.number → weight_in l.given k ≤ WEIGHT_LIMIT
