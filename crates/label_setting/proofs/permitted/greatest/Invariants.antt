use Rattle.std.proofs.Common.{◌≤◌, ◌-◌, ℕ}
use Rattle.definitions.specs.Labels.{Permits}
use Rattle.label_setting.proofs.permitted.greatest.Given as goal

abbrev pub invariant-loop-low : goal.invariant-loop-low
invariant-loop-low l = record {
  order : l.low ≤ l.high;
  low : Permits l.net l.reached l.labels l.node l.low;
  high : (label : ℕ) → Permits l.net l.reached l.labels l.node label → label ≤ l.high;
}

abbrev pub decreases-loop-low : goal.decreases-loop-low
decreases-loop-low l = l.high - l.low
