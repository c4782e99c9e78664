use Rattle.std.proofs.Common.{rules}
use Rattle.feed_reader.proofs.IdLemmas.{number-within}
use Rattle.feed_reader.proofs.ids.Ids.find.Goals as goal

pub returns-in-Some-clause-value : goal.returns-in-Some-clause-value
returns-in-Some-clause-value c = search rules

pub returns-in-Some-clause-within : goal.returns-in-Some-clause-within
returns-in-Some-clause-within c = number-within c.args.self.now c.args.id.now _ (returns-in-Some-clause-value c)

pub returns-in-None-clause-value : goal.returns-in-None-clause-value
returns-in-None-clause-value c = search rules

pub returns-in-None-clause-within : goal.returns-in-None-clause-within
returns-in-None-clause-within c = number-within c.args.self.now c.args.id.now c.copied.result (returns-in-None-clause-value c)
