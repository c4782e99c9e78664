use Rattle.std.proofs.Common.{◌≡◌, map, take}
use Rattle.network.proofs.city_arcs.zones_of.Given as goal

abbrev pub invariant-loop-link : goal.invariant-loop-link
invariant-loop-link l = l.zones.items ≡ map (λ link. link.zone) (take l.link-index l.links)
