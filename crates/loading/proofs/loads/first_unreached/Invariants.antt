use Rattle.std.proofs.Common.{ℕ, ◌<◌, IsTrue, get_or}
use Rattle.definitions.specs.Reach.{is_reached}
use Rattle.loading.proofs.loads.first_unreached.Given as goal

abbrev pub invariant-loop-node : goal.invariant-loop-node
invariant-loop-node l = (other : ℕ) → other < l.node → 0 < get_or l.demand other 0 → IsTrue (is_reached l.reached other)
