use Rattle.feed_reader.proofs.CallLemmas.{left-none, left-some}
use Rattle.feed_reader.proofs.falls.left_behind.Goals as goal

pub returns-in-None : goal.returns-in-None
returns-in-None c = record { value = left-none c.args.calls.now c.args.place c.args.left c.in-None.ensures.value c.requires.left }

pub returns-in-Some : goal.returns-in-Some
returns-in-Some c = record { value = left-some c.args.calls.now c.args.place c.in-Some.times c.in-Some.ensures.value }
