use Rattle.std.proofs.Common.{◌≤◌}
use Rattle.definitions.specs.declared.limits.TheConstants.{FILE_LIMIT}
use Rattle.desk.proofs.FeedLemmas.{HasTaken}
use Rattle.desk.proofs.feeding.feed_all.Given as goal

-- what was taken is within the limit, and was fed
abbrev pub invariant-loop-n : goal.invariant-loop-n
invariant-loop-n g l = record {
  taken : HasTaken (g.S.Source.left l.initial.source) (g.S.Source.left l.source) l.room l.checker;
  room : l.room ≤ FILE_LIMIT;
  count : g.S.Counted.count l.initial.source ≤ g.S.Counted.count l.source;
}

abbrev pub decreases-loop-n : goal.decreases-loop-n
decreases-loop-n g l = l.room
