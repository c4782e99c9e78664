use Rattle.std.proofs.Common.{take}
use Rattle.std.specs.Prelude.{flat_map}
use Rattle.network.specs.Adding.{Adds}
use Rattle.network.proofs.AccessLemmas.{walk_step}
use Rattle.network.proofs.stops.add_walks.Given as goal

abbrev pub invariant-loop-walk : goal.invariant-loop-walk
invariant-loop-walk l = Adds l.fn.arcs l.arcs (flat_map (walk_step l.town l.layer l.stop) (take l.walk-index l.walk-items))
