use Rattle.std.proofs.Common.{◌≡◌, ◌≢◌, ℕ, ◌+◌, ◌<◌, get_or}
use Rattle.loading.proofs.splitting.give_each.Given as goal

abbrev pub invariant-loop-at : goal.invariant-loop-at
invariant-loop-at l = record {
  given : (j : ℕ) → j < l.at → get_or l.out (get_or l.places j 0) 0 ≡ get_or l.fn.out (get_or l.places j 0) 0 + 1;
  kept : (place : ℕ) → ((j : ℕ) → j < l.at → get_or l.places j 0 ≢ place) → get_or l.out place 0 ≡ get_or l.fn.out place 0;
}
