use Rattle.std.proofs.Common.{◌≡◌, ◌++◌}
use Rattle.feed_reader.specs.Calls.{calls_of}
use Rattle.feed_reader.specs.Spreading.{IsGapAt}
use Rattle.feed_reader.proofs.CallLemmas.{spread_from}
use Rattle.feed_reader.proofs.spreading.spread.Given as goal

abbrev pub invariant-loop-place : goal.invariant-loop-place
invariant-loop-place l = record {
  so_far : l.list.items ++ spread_from l.calls l.place ≡ calls_of l.calls;
  gap : IsGapAt l.calls l.place l.gap;
}
