use Rattle.std.proofs.Common.{◌≡◌, ◌≤◌, ◌*◌, length}
use Rattle.std.specs.Prelude.{flat_map}
use Rattle.std.specs.List.{range_with_len}
use Rattle.network.specs.ArcParts.{segment_arcs}
use Rattle.network.proofs.counting.line_count.Given as goal

abbrev pub invariant-loop-place : goal.invariant-loop-place
invariant-loop-place l = record {
  counted : l.count ≡ length (flat_map (segment_arcs l.town l.line) (range_with_len 0 l.place));
  few : l.count ≤ 3 * l.place;
}
