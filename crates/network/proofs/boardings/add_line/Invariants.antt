use Rattle.std.proofs.Common.{◌≡◌, ◌++◌, map}
use Rattle.std.specs.Prelude.{filter}
use Rattle.std.specs.List.{range_with_len}
use Rattle.network.specs.Boardings.{boarding_at, is_boarded}
use Rattle.network.proofs.boardings.add_line.Given as goal

abbrev pub invariant-loop-place : goal.invariant-loop-place
invariant-loop-place l = l.list.items ≡ l.fn.list.items ++ map (boarding_at l.town l.line) (filter (is_boarded l.town l.line) (range_with_len 0 l.place))
