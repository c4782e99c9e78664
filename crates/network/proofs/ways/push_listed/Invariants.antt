use Rattle.std.proofs.Common.{◌≡◌, ◌++◌, map, take}
use Rattle.network.specs.Ways.{listed_way}
use Rattle.network.proofs.ways.push_listed.Given as goal

abbrev pub invariant-loop-walk : goal.invariant-loop-walk
invariant-loop-walk l = l.ways.items ≡ l.initial.ways.items ++ map listed_way (take l.walk-index l.walks)
