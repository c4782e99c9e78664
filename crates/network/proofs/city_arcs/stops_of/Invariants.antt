use Rattle.std.proofs.Common.{◌≡◌, map, take}
use Rattle.network.proofs.city_arcs.stops_of.Given as goal

abbrev pub invariant-loop-link : goal.invariant-loop-link
invariant-loop-link l = l.stops.items ≡ map (λ link. link.stop) (take l.link-index l.links)
