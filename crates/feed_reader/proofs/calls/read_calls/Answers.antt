use Rattle.std.proofs.Common.{sym}
use Rattle.feed_reader.specs.Calls.{falls_in}
use Rattle.feed_reader.proofs.TimesRiseLemmas.{times-rise}
use Rattle.feed_reader.proofs.CallFaultLemmas.{first-none, trip-aside, trip-fall, trip-kept}
use Rattle.feed_reader.proofs.calls.read_calls.Goals as goal

pub returns-then-is_aside-clause-faultless : goal.returns-then-is_aside-clause-faultless
returns-then-is_aside-clause-faultless c = trip-aside c.args.calls.now c.in_default.ensures.value (sym c.if-is_aside.ensures.value)

pub returns-in-Some-first_fall-clause-refused : goal.returns-in-Some-first_fall-clause-refused
returns-in-Some-first_fall-clause-refused c =
    trip-fall c.args.calls.now c.in-Some-first_fall.found c.in_default.ensures.value (sym c.if-is_aside.ensures.value) c.in-Some-first_fall.ensures.value

pub returns-clause-faultless : goal.returns-clause-faultless
returns-clause-faultless c = trip-kept c.args.calls.now c.in_default.ensures.value (sym c.if-is_aside.ensures.value) c.in_default-first_fall.ensures.value

pub returns-clause-rising : goal.returns-clause-rising
returns-clause-rising c =
    rw c.in_ok-list.ensures.value (times-rise c.args.calls.now (sym c.if-is_aside.ensures.value) (λ rows. first-none (falls_in rows c.args.calls.now) (c.in_default-first_fall.ensures.value rows)))
