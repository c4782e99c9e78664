use Rattle.std.proofs.Common.{◌≡◌, ℕ, ◌<◌, ◌≤◌, get_or, cond, length}
use Rattle.definitions.specs.Reach.{is_reached}
use Rattle.label_setting.proofs.solving.fill.Given as goal

abbrev pub invariant-loop-node : goal.invariant-loop-node
invariant-loop-node l = record {
  done : (k : ℕ) → k < l.node → get_or l.labels k 0 ≡ cond (is_reached l.reached k) (get_or l.initial.labels k 0) l.far;
  rest : (k : ℕ) → l.node ≤ k → get_or l.labels k 0 ≡ get_or l.initial.labels k 0;
  count : length l.labels ≡ length l.initial.labels;
}
