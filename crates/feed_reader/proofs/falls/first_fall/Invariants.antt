use Rattle.std.proofs.Common.{◌≡◌, List}
use Rattle.feed_reader.specs.Calls.{falls_in, left_at}
use Rattle.feed_reader.specs.Faults.{Fields}
use Rattle.feed_reader.proofs.CallFaultLemmas.{falls_from}
use Rattle.feed_reader.proofs.falls.first_fall.Given as goal

abbrev pub invariant-loop-place : goal.invariant-loop-place
invariant-loop-place l = record {
  left : l.left ≡ left_at l.calls l.place;
  rest : (rows : List Fields) → falls_in rows l.calls ≡ falls_from l.calls l.place rows;
}
