use Rattle.std.specs.Prelude.{flat_map}
use Rattle.std.specs.List.{range_with_len}
use Rattle.network.specs.Adding.{Adds}
use Rattle.network.specs.ArcParts.{line_arcs}
use Rattle.network.proofs.riding.add_lines.Given as goal

abbrev pub invariant-loop-line : goal.invariant-loop-line
invariant-loop-line l = Adds l.fn.arcs l.arcs (flat_map (line_arcs l.town) (range_with_len 0 l.line))
