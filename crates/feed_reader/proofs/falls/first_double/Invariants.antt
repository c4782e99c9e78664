use Rattle.std.proofs.Common.{◌≡◌, List}
use Rattle.feed_reader.specs.Calls.{doubles_of}
use Rattle.feed_reader.specs.Faults.{Fields}
use Rattle.feed_reader.proofs.CallFaultLemmas.{doubles_from}
use Rattle.feed_reader.proofs.falls.first_double.Given as goal

abbrev pub invariant-loop-place : goal.invariant-loop-place
invariant-loop-place l = (rows : List Fields) → doubles_of rows l.calls ≡ doubles_from l.calls l.place rows
