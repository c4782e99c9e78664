use Rattle.std.proofs.Common.{◌≡◌, ◌<◌, ◌≤◌, ◌*◌, ◌^◌, ℕ}
use Rattle.std.specs.List.{sum_by, range_with_len}
use Rattle.label_setting.specs.Plain.{IsFreePast, saved_by}
use Rattle.label_setting.proofs.permitted.permits.Given as goal

abbrev pub invariant-loop-arc : goal.invariant-loop-arc
invariant-loop-arc l = record {
  free : (a : ℕ) → a < l.arc → IsFreePast l.net l.reached l.labels l.node l.label a;
  saved : l.saved ≡ sum_by (saved_by l.net l.reached l.labels l.node l.label) (range_with_len 0 l.arc);
  within : l.saved ≤ l.arc * 2 ^ 96;
}
