use Rattle.std.proofs.Common.{◌≡◌}
use Rattle.feed_reader.specs.Calls.{timed_from}
use Rattle.feed_reader.proofs.call_times.timed_from.Given as goal

abbrev pub invariant-loop-next : goal.invariant-loop-next
invariant-loop-next l = timed_from l.calls l.next ≡ timed_from l.calls l.place
