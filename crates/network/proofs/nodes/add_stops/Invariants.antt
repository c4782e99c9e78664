use Rattle.std.proofs.Common.{◌≡◌, ◌++◌}
use Rattle.std.specs.Prelude.{flat_map}
use Rattle.std.specs.List.{range_with_len}
use Rattle.network.specs.Nodes.{stop_nodes}
use Rattle.network.proofs.nodes.add_stops.Given as goal

abbrev pub invariant-loop-stop : goal.invariant-loop-stop
invariant-loop-stop l = l.nodes.items ≡ l.initial.nodes.items ++ flat_map stop_nodes (range_with_len 0 l.stop)
