use Rattle.std.proofs.Common.{◌≡◌, ℕ, ◌<◌, None, length, get_or}
use Rattle.skims.proofs.filling.forget.Given as goal

abbrev pub invariant-loop-node : goal.invariant-loop-node
invariant-loop-node l = record {
  done : (k : ℕ) → k < l.node → get_or l.rows k None ≡ None;
  count : length l.rows ≡ length l.initial.rows;
}
