use Rattle.std.proofs.Common.{◌≡◌, ℕ, ◌*◌, ◌/◌, ◌<◌, get_or}
use Rattle.loading.proofs.splitting.give_whole.Given as goal

abbrev pub invariant-loop-place : goal.invariant-loop-place
invariant-loop-place l = record {
  wholes : (k : ℕ) → k < l.place → get_or l.out k 0 ≡ l.units * get_or l.weights k 0 / l.all;
  numbers : (k : ℕ) → k < l.place → get_or l.scratch k 0 ≡ k;
}
