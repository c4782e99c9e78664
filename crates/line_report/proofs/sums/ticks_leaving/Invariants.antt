use Rattle.std.proofs.Common.{◌≡◌, ◌≤◌, ◌*◌}
use Rattle.std.specs.List.{range_with_len, sum_by}
use Rattle.line_report.proofs.NodeArcLemmas.{tick_term}
use Rattle.line_report.proofs.sums.ticks_leaving.Given as goal

-- the sum over the arcs so far
abbrev pub invariant-loop-step : goal.invariant-loop-step
invariant-loop-step l = record {
  value : l.ticks ≡ sum_by (tick_term l.city l.kind l.volumes) (range_with_len l.first l.step);
  within : l.ticks ≤ l.step * 18446744073709551615000000000;
}
