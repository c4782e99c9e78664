use Rattle.std.proofs.Common.{◌≡◌, ◌++◌}
use Rattle.std.specs.Prelude.{flat_map}
use Rattle.std.specs.List.{range_with_len}
use Rattle.network.specs.Nodes.{line_nodes}
use Rattle.network.proofs.nodes.add_lines.Given as goal

abbrev pub invariant-loop-line : goal.invariant-loop-line
invariant-loop-line l = l.nodes.items ≡ l.initial.nodes.items ++ flat_map (line_nodes l.town) (range_with_len 0 l.line)
