use Rattle.std.proofs.Common.{sym, arith, ◌∙◌}
use Rattle.definitions.specs.Choice.{is_tight}
use Rattle.strategy.proofs.RangeLemmas.{found, not_found}
use Rattle.strategy.proofs.choosing.first_tight.Goals as goal

pub returns-then-tight : goal.returns-then-tight
returns-then-tight c = record { value = sym (found (is_tight c.args.net.now c.args.reached.now c.args.labels.now) c.args.first c.args.count c.loop-place.place (omega arith) c.loop-place.invariant (sym c.tight.ensures.value ∙ c.if-tight.true)) }

pub returns : goal.returns
returns c = record { value = sym (not_found (is_tight c.args.net.now c.args.reached.now c.args.labels.now) c.args.first c.args.count (λ j lt. c.loop-place.invariant j (omega arith))) }
