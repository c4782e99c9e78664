use Rattle.std.proofs.Common.{◌≡◌, ◌<◌, ℕ, true}
use Rattle.definitions.specs.Network.{tail_of, head_of}
use Rattle.definitions.specs.Reach.{is_reached}
use Rattle.label_setting.specs.Plain.{IsAbove}
use Rattle.label_setting.proofs.plain.mark_one.Given as goal

abbrev pub invariant-loop-arc : goal.invariant-loop-arc
invariant-loop-arc l = record {
  above : IsAbove l.net l.dest l.reached l.labels;
  same : l.reached ≡ l.initial.reached;
  so_far : (a : ℕ) → a < l.arc → is_reached l.reached (head_of l.net a) ≡ true → is_reached l.reached (tail_of l.net a) ≡ true;
}
