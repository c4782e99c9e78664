use Rattle.std.proofs.Common.{take}
use Rattle.std.specs.Prelude.{flat_map}
use Rattle.network.specs.Adding.{Adds}
use Rattle.network.proofs.AccessLemmas.{access_at}
use Rattle.network.proofs.access.add_access.Given as goal

abbrev pub invariant-loop-place : goal.invariant-loop-place
invariant-loop-place l = Adds l.fn.arcs l.arcs (flat_map (access_at l.town l.zone) (take l.place-index l.place-items))
