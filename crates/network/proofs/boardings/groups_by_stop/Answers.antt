use Rattle.network.proofs.BoardingLemmas.{keys-below}
use Rattle.network.proofs.boardings.groups_by_stop.Goals as goal

pub new-requires-clause-keys : goal.new-requires-clause-keys
new-requires-clause-keys c = rw c.stops.ensures.value (keys-below c.args.town.now c.args.stops.now c.rules.ensures.sources c.requires.stops)
