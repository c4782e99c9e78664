use Rattle.std.proofs.Common.{◌≡◌, length, take}
use Rattle.feed_reader.specs.Kept.{kept_of}
use Rattle.feed_reader.proofs.trips.kept_trips.Given as goal

abbrev pub invariant-loop-trip : goal.invariant-loop-trip
invariant-loop-trip l = record {
  number : l.number ≡ length l.yielded;
  left : l.left.items ≡ kept_of (take (length l.yielded) l.fn.trips.items) l.kept;
}
