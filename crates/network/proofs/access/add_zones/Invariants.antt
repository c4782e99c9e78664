use Rattle.std.specs.Prelude.{flat_map}
use Rattle.std.specs.List.{range_with_len}
use Rattle.network.specs.Adding.{Adds}
use Rattle.network.specs.Arcs.{access_arcs}
use Rattle.network.proofs.access.add_zones.Given as goal

abbrev pub invariant-loop-zone : goal.invariant-loop-zone
invariant-loop-zone l = Adds l.fn.arcs l.arcs (flat_map (access_arcs l.town) (range_with_len 0 l.zone))
