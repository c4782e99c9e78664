use Rattle.std.proofs.Common.{◌≡◌, map, take}
use Rattle.network.proofs.boardings.stops_of.Given as goal

abbrev pub invariant-loop-boarding : goal.invariant-loop-boarding
invariant-loop-boarding l = l.stops.items ≡ map (λ boarding. boarding.stop) (take l.boarding-index l.list)
