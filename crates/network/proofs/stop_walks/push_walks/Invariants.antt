use Rattle.std.proofs.Common.{◌≡◌, ◌++◌, drop}
use Rattle.network.specs.Ways.{walks_after, walks_along}
use Rattle.network.proofs.stop_walks.push_walks.Given as goal

-- the walks so far and those of what is left are all walks
abbrev pub invariant-loop-place : goal.invariant-loop-place
invariant-loop-place l = l.list.items ++ walks_after l.held (drop l.place l.ways) ≡ l.initial.list.items ++ walks_along l.ways
