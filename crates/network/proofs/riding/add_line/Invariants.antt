use Rattle.std.specs.Prelude.{flat_map}
use Rattle.std.specs.List.{range_with_len}
use Rattle.network.specs.Adding.{Adds}
use Rattle.network.specs.ArcParts.{segment_arcs}
use Rattle.network.proofs.riding.add_line.Given as goal

abbrev pub invariant-loop-place : goal.invariant-loop-place
invariant-loop-place l = Adds l.fn.arcs l.arcs (flat_map (segment_arcs l.town l.line) (range_with_len 0 l.place))
