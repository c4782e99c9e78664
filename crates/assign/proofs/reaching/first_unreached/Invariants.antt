use Rattle.std.proofs.Common.{take}
use Rattle.assign.specs.Reached.{AllPairsReach}
use Rattle.assign.specs.Spans.{PartsAt}
use Rattle.assign.specs.Ways.{AreWays}
use Rattle.assign.proofs.reaching.first_unreached.Given as goal

-- the pairs of the zones so far reach
abbrev pub invariant-loop-zone : goal.invariant-loop-zone
invariant-loop-zone l = record {
  parts : PartsAt l.pairs l.zone l.place;
  reach : AllPairsReach l.city (take l.place l.pairs);
  ways : AreWays l.city.net l.ways;
}
