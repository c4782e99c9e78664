use Rattle.std.proofs.Common.{◌≡◌, [], map, take}
use Rattle.std.specs.Prelude.{flat_map}
use Rattle.std.specs.List.{enumerate_from, range_with_len}
use denote.Text.{Utf8}
use denote.Shadow.{shadow}
use Rattle.feed_reader.specs.CallRows.{trip_call}
use Rattle.feed_reader.specs.Ids.{number_of}
use Rattle.feed_reader.specs.Stops.{stop_id, stop_ids}
use Rattle.feed_reader.specs.StopTimes.{call_faults}
use Rattle.feed_reader.proofs.stop_times.read_rows.Given as goal

abbrev pub invariant-loop-row : goal.invariant-loop-row
invariant-loop-row l = shadow (Utf8 l.last)
    × (l.calls ≡ map (trip_call l.trips (stop_ids l.stops)) (enumerate_from 0 (take l.row l.sheet.rows)))
    × (flat_map (call_faults l.trips (map stop_id l.stops) l.sheet.rows) (range_with_len 0 l.row) ≡ [])
    × (l.number ≡ number_of l.trips l.last)
