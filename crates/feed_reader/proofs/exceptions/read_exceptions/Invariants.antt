use Rattle.std.proofs.Common.{◌≡◌, [], map, take}
use Rattle.std.specs.Prelude.{flat_map}
use Rattle.std.specs.List.{AllZip, range_with_len}
use Rattle.feed_reader.specs.Calendars.{IsExceptionOf, exception_faults, service_id}
use Rattle.feed_reader.specs.ServiceNotes.{all_noted}
use Rattle.feed_reader.proofs.exceptions.read_exceptions.Given as goal

abbrev pub invariant-loop-row : goal.invariant-loop-row
invariant-loop-row l = record {
  exceptions : AllZip (IsExceptionOf l.services) (take l.row l.sheet.rows) l.exceptions.items;
  services : l.services ≡ all_noted l.fn.services (map service_id (take l.row l.sheet.rows));
  none : flat_map (exception_faults l.sheet.rows) (range_with_len 0 l.row) ≡ [];
}
