use Rattle.std.proofs.Common.{ℕ, ◌+◌, ◌<◌, ◌≤◌, IsTrue}
use Rattle.definitions.specs.Network.{is_boarding}
use Rattle.definitions.specs.Plan.{IsWaitedFor}
use Rattle.loading.proofs.waiting.wait_among.Given as goal

abbrev pub invariant-loop-place : goal.invariant-loop-place
invariant-loop-place l = record {
  enough : (j : ℕ) → j < l.place → IsTrue (is_boarding l.net (l.first + j)) → IsWaitedFor l.net l.volumes (l.first + j) l.wait;
  least : (w : ℕ) → ((j : ℕ) → j < l.place → IsTrue (is_boarding l.net (l.first + j)) → IsWaitedFor l.net l.volumes (l.first + j) w) → l.wait ≤ w;
}
