use Rattle.std.proofs.Common.{sym, ◌∙◌}
use Rattle.feed_reader.proofs.CallLemmas.{from-untimed}
use Rattle.feed_reader.proofs.call_times.timed_from.Goals as goal

pub loop-next-preserved : goal.loop-next-preserved
loop-next-preserved c =
    sym (from-untimed c.args.calls.now c.loop-next.next c.loop-next-test.true (sym c.is_timed.ensures.value ∙ c.if-is_timed.false)) ∙ c.loop-next.invariant
