use Rattle.std.proofs.Common.{◌≡◌, [], take}
use Rattle.std.specs.List.{fold}
use Rattle.demand.specs.Joined.{joined}
use Rattle.demand.proofs.pairs.joined_of.Given as goal

abbrev pub invariant-loop-amount : goal.invariant-loop-amount
invariant-loop-amount l = l.pairs.items ≡ fold joined [] (take l.amount-index l.amounts)
