use Rattle.std.proofs.Common.{◌≡◌, ◌++◌}
use Rattle.std.specs.Prelude.{flat_map}
use Rattle.std.specs.List.{range_with_len}
use Rattle.network.specs.Nodes.{segment_nodes}
use Rattle.network.proofs.nodes.add_line.Given as goal

abbrev pub invariant-loop-place : goal.invariant-loop-place
invariant-loop-place l = l.nodes.items ≡ l.initial.nodes.items ++ flat_map (segment_nodes l.line) (range_with_len 0 l.place)
