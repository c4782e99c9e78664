use Rattle.std.proofs.Common.{take}
use Rattle.std.specs.Prelude.{flat_map}
use Rattle.network.specs.Adding.{Adds}
use Rattle.network.proofs.AccessLemmas.{egress_at}
use Rattle.network.proofs.access.add_egress.Given as goal

abbrev pub invariant-loop-place : goal.invariant-loop-place
invariant-loop-place l = Adds l.fn.arcs l.arcs (flat_map (egress_at l.town l.fn.layer l.stop) (take l.place-index l.place-items))
