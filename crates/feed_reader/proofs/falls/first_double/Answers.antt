use Rattle.std.proofs.Common.{get_or, sym, ◌∙◌, ◌+◌, ◌-◌}
use Rattle.feed_reader.specs.Calls.{double_faults, doubles_of}
use Rattle.feed_reader.proofs.CallLemmas.{blank}
use Rattle.feed_reader.proofs.CallFaultLemmas.{doubles-end, doubles-more, doubles_from, finds-none, found-first, none-first}
use Rattle.feed_reader.proofs.falls.first_double.Goals as goal

pub returns-then-is_some : goal.returns-then-is_some
returns-then-is_some c = record {
  value =
      found-first (λ rows. double_faults rows (get_or c.args.calls.now (c.loop-place.place - 1) blank) (get_or c.args.calls.now c.loop-place.place blank))
      (doubles_from c.args.calls.now (c.loop-place.place + 1)) (λ rows. doubles_of rows c.args.calls.now) c.double_of-double.result c.double_of-double.ensures.value
      (sym c.is_some.ensures ∙ c.if-is_some.true)
      (λ rows. c.loop-place.invariant rows ∙ doubles-more c.args.calls.now c.loop-place.place c.loop-place.auto.place c.loop-place-test.true rows);
}

pub loop-place-preserved : goal.loop-place-preserved
loop-place-preserved c =
    none-first (λ rows. double_faults rows (get_or c.args.calls.now (c.loop-place.place - 1) blank) (get_or c.args.calls.now c.loop-place.place blank))
    (doubles_from c.args.calls.now (c.loop-place.place + 1)) (λ rows. doubles_of rows c.args.calls.now) c.double_of-double.result c.double_of-double.ensures.value
    (sym c.is_some.ensures ∙ c.if-is_some.false)
    (λ rows. c.loop-place.invariant rows ∙ doubles-more c.args.calls.now c.loop-place.place c.loop-place.auto.place c.loop-place-test.true rows)

pub returns : goal.returns
returns c = record {
  value = finds-none (λ rows. doubles_of rows c.args.calls.now)
      (λ rows. c.loop-place.invariant rows ∙ doubles-end c.args.calls.now c.loop-place.place c.loop-place-test.false rows);
}
