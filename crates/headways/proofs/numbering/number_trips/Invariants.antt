use Rattle.headways.specs.Numbering.{AreNumbered, IsKeyed, keys_of}
use Rattle.headways.proofs.numbering.number_trips.Given as goal

abbrev pub invariant-loop-trip : goal.invariant-loop-trip
invariant-loop-trip l = record {
  numbered : AreNumbered l.feed l.weights l.trip l.numbered.counted.items l.numbered.firsts.items;
  keyed : IsKeyed (keys_of l.feed l.numbered.firsts.items) l.numbers;
}
