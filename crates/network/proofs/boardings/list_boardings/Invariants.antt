use Rattle.std.proofs.Common.{◌≡◌}
use Rattle.std.specs.Prelude.{flat_map}
use Rattle.std.specs.List.{range_with_len}
use Rattle.network.specs.Boardings.{line_boardings}
use Rattle.network.proofs.boardings.list_boardings.Given as goal

abbrev pub invariant-loop-line : goal.invariant-loop-line
invariant-loop-line l = l.list.items ≡ flat_map (line_boardings l.town) (range_with_len 0 l.line)
