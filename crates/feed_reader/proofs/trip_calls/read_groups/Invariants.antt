use Rattle.std.proofs.Common.{◌≡◌, List, []}
use Rattle.feed_reader.specs.Faults.{Fields}
use Rattle.std.specs.Prelude.{All}
use Rattle.feed_reader.specs.Stretches.{rows_on}
use Rattle.feed_reader.specs.TimesRise.{TimesRise}
use Rattle.feed_reader.specs.TripCalls.{faults_of_trips, kept_of, lists_of}
use Rattle.feed_reader.proofs.GroupLemmas.{IsBefore}
use Rattle.feed_reader.proofs.trip_calls.read_groups.Given as goal

abbrev pub invariant-loop-trip : goal.invariant-loop-trip
invariant-loop-trip l = record {
  kept : l.found.kept.items ≡ kept_of (rows_on l.calls l.stretches) l.trip;
  lists : l.found.lists ≡ lists_of (rows_on l.calls l.stretches) l.trip;
  faultless : (fields : List Fields) → faults_of_trips (rows_on l.calls l.stretches) l.trip fields ≡ [];
  rising : All TimesRise l.found.lists;
  before : IsBefore l.stretches l.trip l.start;
}
