use Rattle.std.proofs.Common.{◌≡◌, ◌++◌, take}
use Rattle.network.specs.Ways.{ways_between}
use Rattle.network.proofs.ways.push_between.Given as goal

abbrev pub invariant-loop-from : goal.invariant-loop-from
invariant-loop-from l = l.ways.items ≡ l.initial.ways.items ++ ways_between l.ruling (take l.from-index l.froms) l.tos
