use Rattle.std.proofs.Common.{◌≡◌, ◌≤◌, ◌*◌}
use Rattle.std.specs.List.{range_with_len, sum_by}
use Rattle.line_report.specs.Passengers.{boarded}
use Rattle.line_report.proofs.table.Table.boarded_in_all.Given as goal

-- the sum over the places so far
abbrev pub invariant-loop-place : goal.invariant-loop-place
invariant-loop-place l = record {
  value : l.units ≡ sum_by (boarded l.self.city l.self.volumes l.kept) (range_with_len 0 l.place);
  within : l.units ≤ l.place * (8388608 * 18446744073709551615);
}
