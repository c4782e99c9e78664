use Rattle.std.proofs.Common.{◌≡◌, map}
use Rattle.std.specs.List.{range_with_len}
use Rattle.line_report.specs.Passengers.{greatest_of, on_board}
use Rattle.line_report.proofs.table.Table.most_on_board.Given as goal

-- the greatest of the places so far
abbrev pub invariant-loop-place : goal.invariant-loop-place
invariant-loop-place l = l.most ≡ greatest_of (map (on_board l.self.city l.self.volumes l.kept) (range_with_len 0 l.place))
