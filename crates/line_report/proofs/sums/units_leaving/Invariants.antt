use Rattle.std.proofs.Common.{◌≡◌, ◌≤◌, ◌*◌}
use Rattle.std.specs.List.{range_with_len, sum_by}
use Rattle.line_report.proofs.NodeArcLemmas.{unit_term}
use Rattle.line_report.proofs.sums.units_leaving.Given as goal

-- the sum over the arcs so far
abbrev pub invariant-loop-step : goal.invariant-loop-step
invariant-loop-step l = record {
  value : l.units ≡ sum_by (unit_term l.city l.kind l.volumes) (range_with_len l.first l.step);
  within : l.units ≤ l.step * 18446744073709551615;
}
