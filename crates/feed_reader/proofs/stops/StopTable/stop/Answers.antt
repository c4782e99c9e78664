use Rattle.std.proofs.Common.{◌∙◌, ap}
use Rattle.feed_reader.specs.StopTables.{stop_on}
use Rattle.feed_reader.proofs.StopLemmas.{stop-named, stop-within}
use Rattle.feed_reader.proofs.stops.StopTable.stop.Goals as goal

pub returns-clause-within : goal.returns-clause-within
returns-clause-within c = stop-within c.args.self.now c.args.id.now c.stop_on.result (c.stop_on.ensures.value ∙ ap stop_on c.side.ensures.value ∙ stop-named c.args.self.now c.args.id.now)
