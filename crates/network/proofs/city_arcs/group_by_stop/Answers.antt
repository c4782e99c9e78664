use Rattle.network.proofs.WholeLemmas.{stop-keys}
use Rattle.network.proofs.city_arcs.group_by_stop.Goals as goal

pub new-requires-clause-keys : goal.new-requires-clause-keys
new-requires-clause-keys c = rw c.stops.ensures.value (stop-keys c.args.town.now c.args.stops.now c.rules.ensures.sources c.requires.stops)
