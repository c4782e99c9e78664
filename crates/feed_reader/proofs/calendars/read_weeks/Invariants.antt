use Rattle.std.proofs.Common.{◌≡◌, [], map, take}
use Rattle.std.specs.Prelude.{flat_map}
use Rattle.std.specs.List.{AllZip, range_with_len}
use Rattle.feed_reader.specs.Calendars.{IsWeekOf, service_id, week_faults}
use Rattle.feed_reader.specs.ServiceNotes.{all_noted}
use Rattle.feed_reader.proofs.calendars.read_weeks.Given as goal

abbrev pub invariant-loop-row : goal.invariant-loop-row
invariant-loop-row l = record {
  weeks : AllZip (IsWeekOf l.services) (take l.row l.sheet.rows) l.weeks.items;
  services : l.services ≡ all_noted l.fn.services (map service_id (take l.row l.sheet.rows));
  listed : l.services ≡ map service_id (take l.row l.sheet.rows);
  none : flat_map (week_faults l.sheet.rows) (range_with_len 0 l.row) ≡ [];
}
