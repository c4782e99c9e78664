use Rattle.std.proofs.Common.{◌≡◌, map, take}
use Rattle.scenarios.proofs.index.stop_ids.Given as goal

abbrev pub invariant-loop-stop : goal.invariant-loop-stop
invariant-loop-stop l = map (λ id. id.now) l.ids.items ≡ map (λ stop. stop.id) (take l.stop-index l.stops)
