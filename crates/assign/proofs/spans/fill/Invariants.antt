use Rattle.std.proofs.Common.{◌≡◌, ◌+◌, length, sum, take, slice_index, ◌<◌, ℕ}
use Rattle.demand.specs.Pairs.{units_from_to}
use Rattle.assign.specs.Conditions.{units_of_pairs}
use Rattle.assign.proofs.spans.fill.Given as goal

-- the units of the pairs so far stand at their origins
abbrev pub invariant-loop-place : goal.invariant-loop-place
invariant-loop-place l = record {
  each : (node : ℕ) → node < length l.demand → slice_index l.demand node ≡ units_from_to (take l.place l.pairs) node l.zone;
  total : sum l.demand ≡ l.units;
  units : units_of_pairs (take l.from l.pairs) + l.units ≡ units_of_pairs (take l.place l.pairs);
}
