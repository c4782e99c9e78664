use Rattle.std.proofs.Common.{◌≡◌, map, take}
use Rattle.headways.proofs.grouping.trips_of.Given as goal

abbrev pub invariant-loop-found : goal.invariant-loop-found
invariant-loop-found l = l.trips.items ≡ map (λ found. found.trip) (take l.found-index l.counted)
