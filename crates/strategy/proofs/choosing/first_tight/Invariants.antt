use Rattle.std.proofs.Common.{◌≡◌, ℕ, ◌+◌, ◌<◌, false}
use Rattle.definitions.specs.Choice.{is_tight}
use Rattle.strategy.proofs.choosing.first_tight.Given as goal

abbrev pub invariant-loop-place : goal.invariant-loop-place
invariant-loop-place l = (j : ℕ) → j < l.place → is_tight l.net l.reached l.labels (l.first + j) ≡ false
