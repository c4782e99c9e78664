use Rattle.std.proofs.Common.{take}
use Rattle.std.specs.Prelude.{flat_map}
use Rattle.network.specs.Adding.{Adds}
use Rattle.network.proofs.BoardingLemmas.{board_at}
use Rattle.network.proofs.stops.add_boardings.Given as goal

abbrev pub invariant-loop-place : goal.invariant-loop-place
invariant-loop-place l = Adds l.fn.arcs l.arcs (flat_map (board_at l.town l.layer l.stop) (take l.place-index l.place-items))
