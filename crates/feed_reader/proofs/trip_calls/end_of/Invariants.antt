use Rattle.std.proofs.Common.{◌≡◌, ◌+◌}
use Rattle.feed_reader.proofs.GroupLemmas.{size_of}
use Rattle.feed_reader.proofs.trip_calls.end_of.Given as goal

abbrev pub invariant-loop-place : goal.invariant-loop-place
invariant-loop-place l = l.place + size_of l.stretches l.trip l.place ≡ l.start + size_of l.stretches l.trip l.start
