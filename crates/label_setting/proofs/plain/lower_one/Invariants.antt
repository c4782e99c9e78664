use Rattle.std.proofs.Common.{◌≡◌, ◌≢◌, ◌<◌, ℕ, get_or, true}
use Rattle.definitions.specs.Reach.{is_reached}
use Rattle.definitions.specs.Labels.{Permits}
use Rattle.label_setting.specs.Plain.{IsAbove}
use Rattle.label_setting.proofs.plain.lower_one.Given as goal

abbrev pub invariant-loop-node : goal.invariant-loop-node
invariant-loop-node l = record {
  above : IsAbove l.net l.dest l.reached l.labels;
  same : l.labels ≡ l.initial.labels;
  so_far : (i : ℕ) → i < l.node → is_reached l.reached i ≡ true → i ≢ l.dest → Permits l.net l.reached l.labels i (get_or l.labels i 0);
}
