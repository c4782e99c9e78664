use Rattle.std.proofs.Common.{sym, ◌∙◌}
use Rattle.feed_reader.proofs.CallLemmas.{gap-next, gap-same}
use Rattle.feed_reader.proofs.spreading.next_gap.Goals as goal

pub returns-then-not-is_timed : goal.returns-then-not-is_timed
returns-then-not-is_timed c = record {
  value =
      gap-same c.args.calls.now c.args.place c.args.gap c.requires.place (sym c.is_timed.ensures.value ∙ c.if-not-is_timed.true) c.requires.gap;
}

pub returns : goal.returns
returns c = record { value = gap-next c.args.calls.now c.args.place _ (sym c.is_timed.ensures.value ∙ c.if-not-is_timed.false) c.timed_from.ensures.value }
