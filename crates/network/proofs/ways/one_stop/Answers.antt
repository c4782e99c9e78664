use Rattle.std.proofs.Common.{◌∙◌, sym, arith}
use Rattle.network.proofs.StationLemmas.{one-past, one-there}
use Rattle.network.proofs.ways.one_stop.Goals as goal

pub returns-then-stop-count : goal.returns-then-stop-count
returns-then-stop-count c = record { value = c.new-stops.ensures.items ∙ sym (one-past c.args.stop c.args.count (omega arith)) }

pub returns : goal.returns
returns c = record { value = rw c.new-stops.ensures.items at c.in_ok-push.ensures.items ∙ sym (one-there c.args.stop 0 c.args.count (omega arith) (omega arith)) }
