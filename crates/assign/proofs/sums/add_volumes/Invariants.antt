use Rattle.std.proofs.Common.{◌≡◌, ◌+◌, ◌<◌, ◌≤◌, length, slice_index, ℕ}
use Rattle.assign.proofs.sums.add_volumes.Given as goal

-- the places so far have their sums, and the others what they had
abbrev pub invariant-loop-arc : goal.invariant-loop-arc
invariant-loop-arc l = record {
  done : (place : ℕ) → place < l.arc → slice_index l.sums place ≡ slice_index l.initial.sums place + slice_index l.volumes place;
  others : (place : ℕ) → l.arc ≤ place → place < length l.sums → slice_index l.sums place ≡ slice_index l.initial.sums place;
}
