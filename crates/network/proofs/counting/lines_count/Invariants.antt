use Rattle.std.proofs.Common.{◌≡◌, ◌≤◌, ◌*◌, length}
use Rattle.std.specs.Prelude.{flat_map}
use Rattle.std.specs.List.{range_with_len}
use Rattle.network.specs.ArcParts.{line_arcs}
use Rattle.network.proofs.counting.lines_count.Given as goal

abbrev pub invariant-loop-line : goal.invariant-loop-line
invariant-loop-line l = record {
  counted : l.count ≡ length (flat_map (line_arcs l.town) (range_with_len 0 l.line));
  few : l.count ≤ 2097152 * l.line;
}
