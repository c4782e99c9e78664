use Rattle.std.proofs.Common.{◌≡◌, ◌++◌, take}
use Rattle.network.specs.Ways.{ways_to}
use Rattle.network.proofs.ways.push_to.Given as goal

abbrev pub invariant-loop-to : goal.invariant-loop-to
invariant-loop-to l = l.ways.items ≡ l.initial.ways.items ++ ways_to l.ruling (take l.to-index l.tos) l.from
