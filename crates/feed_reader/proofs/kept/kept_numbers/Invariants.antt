use Rattle.std.proofs.Common.{◌≡◌, ◌≤◌, take}
use Rattle.feed_reader.specs.Kept.{numbers_from}
use Rattle.feed_reader.proofs.KeptLemmas.{trues}
use Rattle.feed_reader.proofs.kept.kept_numbers.Given as goal

abbrev pub invariant-loop-keep : goal.invariant-loop-keep
invariant-loop-keep l = record {
  numbers : l.numbers.items ≡ numbers_from 0 (take l.keep-index l.kept);
  count : l.count ≡ trues (take l.keep-index l.kept);
  below : l.count ≤ l.keep-index;
}
