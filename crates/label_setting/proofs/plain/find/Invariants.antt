use Rattle.label_setting.specs.Plain.{IsAbove, IsClosed, unmarked, label_sum}
use Rattle.label_setting.proofs.plain.find.Given as goal

abbrev pub invariant-loop : goal.invariant-loop
invariant-loop l = IsAbove l.net l.dest l.reached l.labels

abbrev pub decreases-loop : goal.decreases-loop
decreases-loop l = unmarked l.net l.reached

abbrev pub invariant-loop-2 : goal.invariant-loop-2
invariant-loop-2 l = record {
  above : IsAbove l.net l.dest l.reached l.labels;
  closed : IsClosed l.net l.reached;
}

abbrev pub decreases-loop-2 : goal.decreases-loop-2
decreases-loop-2 l = label_sum l.net l.labels
