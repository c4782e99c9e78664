use Rattle.std.proofs.Common.{get_or, sym, ◌∙◌, ◌+◌}
use Rattle.feed_reader.specs.Calls.{falls_in, falls_of, times_of}
use Rattle.feed_reader.proofs.CallLemmas.{blank}
use Rattle.feed_reader.proofs.CallFaultLemmas.{falls-end, falls-more, falls_from, finds-none, found-first, none-first}
use Rattle.feed_reader.proofs.falls.first_fall.Goals as goal

pub returns-then-is_some : goal.returns-then-is_some
returns-then-is_some c = record {
  value =
      found-first (λ rows. falls_of rows c.loop-place.left (get_or c.args.calls.now c.loop-place.place blank) (times_of (get_or c.args.calls.now c.loop-place.place blank)))
      (falls_from c.args.calls.now (c.loop-place.place + 1)) (λ rows. falls_in rows c.args.calls.now) c.fall_of-fall.result c.fall_of-fall.ensures.value
      (sym c.is_some.ensures ∙ c.if-is_some.true)
      (λ rows. c.loop-place.invariant.rest rows ∙ falls-more c.args.calls.now c.loop-place.place c.loop-place.left c.loop-place-test.true c.loop-place.invariant.left rows);
}

pub loop-place-preserved : goal.loop-place-preserved
loop-place-preserved c = record {
  left = c.left_behind-left.ensures.value;
  rest = none-first (λ rows. falls_of rows c.loop-place.left (get_or c.args.calls.now c.loop-place.place blank) (times_of (get_or c.args.calls.now c.loop-place.place blank)))
      (falls_from c.args.calls.now (c.loop-place.place + 1)) (λ rows. falls_in rows c.args.calls.now) c.fall_of-fall.result c.fall_of-fall.ensures.value
      (sym c.is_some.ensures ∙ c.if-is_some.false)
      (λ rows. c.loop-place.invariant.rest rows ∙ falls-more c.args.calls.now c.loop-place.place c.loop-place.left c.loop-place-test.true c.loop-place.invariant.left rows);
}

pub returns : goal.returns
returns c = record {
  value = finds-none (λ rows. falls_in rows c.args.calls.now)
      (λ rows. c.loop-place.invariant.rest rows ∙ falls-end c.args.calls.now c.loop-place.place c.loop-place-test.false rows);
}
