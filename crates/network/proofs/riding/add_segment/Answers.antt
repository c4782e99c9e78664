use Rattle.std.proofs.Common.{[], ◌∷◌}
use Rattle.std.proofs.lemmas.Result.{on_ok_weaker}
use Rattle.network.specs.Arcs.{ride_arc}
use Rattle.network.proofs.AddingLemmas.{adds-then}
use Rattle.network.proofs.riding.add_segment.Goals as goal

pub returns-clause-added : goal.returns-clause-added
returns-clause-added c = on_ok_weaker c.add_alight.result (λ last.
    adds-then c.args.arcs.now c.add_ride.new.arcs c.add_alight.new.arcs (ride_arc c.args.town.now c.args.line c.args.place ∷ []) _ c.in_ok-add_ride.ensures.added
    (adds-then c.add_ride.new.arcs c.add_dwell.new.arcs c.add_alight.new.arcs _ _ (rw c.next-next.ensures.value at c.in_ok-add_dwell.ensures.added) last))
    (rw c.next-next.ensures.value at c.add_alight.ensures.added)
