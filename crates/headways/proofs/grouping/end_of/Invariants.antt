use Rattle.std.proofs.Common.{◌≡◌, ◌+◌}
use Rattle.headways.proofs.GroupLemmas.{size_of}
use Rattle.headways.proofs.grouping.end_of.Given as goal

abbrev pub invariant-loop-place : goal.invariant-loop-place
invariant-loop-place l = l.place + size_of l.counted l.line l.place ≡ l.start + size_of l.counted l.line l.start
