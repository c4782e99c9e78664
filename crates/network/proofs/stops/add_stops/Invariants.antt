use Rattle.std.specs.Prelude.{flat_map}
use Rattle.std.specs.List.{range_with_len}
use Rattle.network.specs.Adding.{Adds}
use Rattle.network.specs.ArcParts.{stop_node_arcs}
use Rattle.network.proofs.stops.add_stops.Given as goal

abbrev pub invariant-loop-stop : goal.invariant-loop-stop
invariant-loop-stop l = Adds l.fn.arcs l.arcs (flat_map (stop_node_arcs l.town) (range_with_len 0 l.stop))
