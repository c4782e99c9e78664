use Rattle.std.proofs.Common.{rules}
use Rattle.demand.proofs.IdLemmas.{number-within}
use Rattle.demand.proofs.stop_numbers.StopNumbers.find.Goals as goal

pub returns-clause-value : goal.returns-clause-value
returns-clause-value c = search rules

pub returns-clause-within : goal.returns-clause-within
returns-clause-within c = number-within c.args.self.now c.args.id.now c.copied.result (returns-clause-value c)
