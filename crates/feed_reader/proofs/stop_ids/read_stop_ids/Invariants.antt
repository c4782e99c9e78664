use Rattle.std.proofs.Common.{◌≡◌, []}
use Rattle.std.specs.Prelude.{flat_map}
use Rattle.std.specs.List.{range_with_len}
use Rattle.feed_reader.specs.Stops.{stop_faults}
use Rattle.feed_reader.specs.StopTables.{AreIdsBefore}
use Rattle.feed_reader.proofs.stop_ids.read_stop_ids.Given as goal

abbrev pub invariant-loop-row : goal.invariant-loop-row
invariant-loop-row l = record {
  ids : AreIdsBefore l.sheet.rows l.row l.ids.all l.ids.stops l.ids.stations;
  none : flat_map (stop_faults l.sheet.rows) (range_with_len 0 l.row) ≡ [];
}
