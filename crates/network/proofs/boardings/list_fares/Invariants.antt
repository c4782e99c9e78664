use Rattle.std.proofs.Common.{◌≡◌, map}
use Rattle.std.specs.List.{range_with_len}
use Rattle.network.specs.Boardings.{fares_at}
use Rattle.network.proofs.boardings.list_fares.Given as goal

abbrev pub invariant-loop-line : goal.invariant-loop-line
invariant-loop-line g l = l.fares.items ≡ map (fares_at l.town) (range_with_len 0 l.line)
