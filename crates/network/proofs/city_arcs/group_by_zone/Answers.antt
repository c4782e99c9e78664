use Rattle.network.proofs.WholeLemmas.{zone-keys}
use Rattle.network.proofs.city_arcs.group_by_zone.Goals as goal

pub new-requires-clause-keys : goal.new-requires-clause-keys
new-requires-clause-keys c = rw c.zones.ensures.value (zone-keys c.args.town.now c.args.zones.now c.rules.ensures.sources c.requires.zones)
