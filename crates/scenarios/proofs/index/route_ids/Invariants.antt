use Rattle.std.proofs.Common.{◌≡◌, map, take}
use Rattle.scenarios.proofs.index.route_ids.Given as goal

abbrev pub invariant-loop-route : goal.invariant-loop-route
invariant-loop-route l = map (λ id. id.now) l.ids.items ≡ take l.route-index l.routes
