use Rattle.std.proofs.Common.{length, ◌-◌, ◌≤◌, ◌<◌, ℕ}
use Rattle.assign.specs.Conditions.{destination_at}
use Rattle.assign.proofs.spans.begin_of.Given as goal

-- the pairs so far lead to lower zones
abbrev pub invariant-loop-begin : goal.invariant-loop-begin
invariant-loop-begin l = record {
  high : l.begin ≤ length l.pairs;
  before : (other : ℕ) → other < l.begin → destination_at l.pairs other < l.zone;
}

abbrev pub decreases-loop-begin : goal.decreases-loop-begin
decreases-loop-begin l = length l.pairs - l.begin
