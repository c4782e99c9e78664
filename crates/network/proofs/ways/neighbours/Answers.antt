use Rattle.network.proofs.StationLemmas.{no-neighbours, parent-none}
use Rattle.network.proofs.ways.neighbours.Goals as goal

pub returns-in-None : goal.returns-in-None
returns-in-None c = record { value = no-neighbours c.args.feed.now c.args.stop (parent-none c.args.feed.now c.stops.result.now c.args.stop _ c.stops.ensures.value c.requires.stop c.in-None.is) }
