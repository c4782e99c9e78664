use Rattle.std.proofs.Common.{◌≡◌, [], map, take}
use Rattle.std.specs.Prelude.{flat_map}
use Rattle.headways.specs.Faults.{line_faults}
use Rattle.headways.specs.Lines.{line_of}
use Rattle.headways.proofs.GroupLemmas.{IsBefore}
use Rattle.headways.proofs.grouping.read_groups.Given as goal

abbrev pub invariant-loop-line : goal.invariant-loop-line
invariant-loop-line l = record {
  value : l.lines.items ≡ map (line_of l.feed l.weights) (take l.line l.first_trips);
  faultless : flat_map (λ first. line_faults (line_of l.feed l.weights first)) (take l.line l.first_trips) ≡ [];
  before : IsBefore l.counted l.line l.start;
}
