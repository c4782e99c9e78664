use Rattle.std.proofs.Common.{ℕ, ◌<◌, ◌≤◌, get_or}
use Rattle.definitions.specs.Volumes.{IsLongEnough}
use Rattle.loading.proofs.waiting.set_waits.Given as goal

abbrev pub invariant-loop-node : goal.invariant-loop-node
invariant-loop-node l = record {
  enough : (i : ℕ) → i < l.node → IsLongEnough l.net l.volumes i (get_or l.waits i 0);
  least : (i w : ℕ) → i < l.node → IsLongEnough l.net l.volumes i w → get_or l.waits i 0 ≤ w;
}
