use Rattle.std.proofs.Common.{◌≡◌, ◌++◌}
use Rattle.std.specs.Prelude.{map}
use Rattle.std.specs.List.{range_with_len}
use Rattle.network.specs.declared.kinds.NodeKind.TheVariants as node
use Rattle.network.proofs.nodes.add_origins.Given as goal

abbrev pub invariant-loop-zone : goal.invariant-loop-zone
invariant-loop-zone l = l.nodes.items ≡ l.initial.nodes.items ++ map node.Origin (range_with_len 0 l.zone)
