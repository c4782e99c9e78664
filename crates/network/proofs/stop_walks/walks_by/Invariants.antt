use Rattle.network.proofs.WalkLemmas.{IsSoFar}
use Rattle.network.proofs.stop_walks.walks_by.Given as goal

abbrev pub invariant-loop-stop : goal.invariant-loop-stop
invariant-loop-stop l = IsSoFar l.stops l.ways l.stop l.start l.firsts.items l.list.items
