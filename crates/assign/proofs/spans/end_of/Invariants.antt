use Rattle.std.proofs.Common.{length, ◌-◌, ◌≡◌, ◌≤◌, ◌<◌, ℕ}
use Rattle.assign.specs.Conditions.{destination_at}
use Rattle.assign.proofs.spans.end_of.Given as goal

-- the pairs so far lead to the zone
abbrev pub invariant-loop-end : goal.invariant-loop-end
invariant-loop-end l = record {
  low : l.from ≤ l.end;
  high : l.end ≤ length l.pairs;
  same : (other : ℕ) → l.from ≤ other → other < l.end → destination_at l.pairs other ≡ l.zone;
}

abbrev pub decreases-loop-end : goal.decreases-loop-end
decreases-loop-end l = length l.pairs - l.end
