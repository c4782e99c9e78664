use Rattle.std.proofs.Common.{◌≡◌, take}
use Rattle.std.specs.Prelude.{flat_map}
use Rattle.feed_reader.specs.Stretches.{calls_on}
use Rattle.feed_reader.proofs.trip_calls.calls_by_sequence.Given as goal

abbrev pub invariant-loop-stretch : goal.invariant-loop-stretch
invariant-loop-stretch l = l.found.items ≡ flat_map (calls_on l.calls) (take l.stretch-index l.stretches)
