use Rattle.std.proofs.Common.{◌≡◌, ◌≤◌, ◌*◌}
use Rattle.std.specs.List.{range_with_len, sum_by}
use Rattle.lp_model.specs.Parts.{first_arc}
use Rattle.network.specs.Standing.{leave_number}
use Rattle.line_report.specs.Passengers.{ticks_from}
use Rattle.line_report.proofs.table.Table.ticks_in_all.Given as goal

-- the sum over the places so far, which is within what the arcs before the next place permit
abbrev pub invariant-loop-place : goal.invariant-loop-place
invariant-loop-place l = record {
  value : l.ticks ≡ sum_by (ticks_from l.self.city l.self.volumes l.kept) (range_with_len 0 l.place);
  within : l.ticks ≤ first_arc l.self.city.net (leave_number l.self.city l.kept l.place) * 18446744073709551615000000000;
}
