use Rattle.std.proofs.Common.{◌≡◌, [], map, take}
use Rattle.std.specs.Prelude.{flat_map}
use Rattle.std.specs.List.{AllZip, IsDistinct, range_with_len}
use Rattle.std.specs.Str.{bytes_eq}
use Rattle.feed_reader.specs.ServiceNotes.{all_noted}
use Rattle.feed_reader.specs.TripRows.{IsTripOfRow}
use Rattle.feed_reader.specs.Trips.{trip_faults, trip_id, trip_service}
use Rattle.feed_reader.proofs.trips.read_trip_rows.Given as goal

abbrev pub invariant-loop-row : goal.invariant-loop-row
invariant-loop-row l = record {
  ids : l.ids ≡ map trip_id (take l.row l.sheet.rows);
  distinct : IsDistinct bytes_eq l.ids;
  trips : AllZip (IsTripOfRow l.routes l.services) (take l.row l.sheet.rows) l.trips.items;
  services : l.services ≡ all_noted l.fn.services (map trip_service (take l.row l.sheet.rows));
  none : flat_map (trip_faults l.routes l.sheet.rows) (range_with_len 0 l.row) ≡ [];
}
