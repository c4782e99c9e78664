use Rattle.std.proofs.Common.{take}
use Rattle.assign.specs.Reached.{AllPairsReach}
use Rattle.assign.proofs.reaching.all_joined.Given as goal

-- the pairs so far reach
abbrev pub invariant-loop-place : goal.invariant-loop-place
invariant-loop-place l = AllPairsReach l.city (take l.place l.pairs)
