use Rattle.std.proofs.Common.{◌≡◌, ◌<◌, ◌^◌, []}
use Rattle.std.specs.Prelude.{flat_map, sum_by, if◌then◌else◌}
use Rattle.std.specs.List.{range_with_len}
use Rattle.feed_reader.specs.Calendars.{day_faults, day_field, is_set}
use Rattle.feed_reader.specs.Faults.{row_at}
use Rattle.feed_reader.proofs.calendars.days_at.Given as goal

abbrev pub invariant-loop-day : goal.invariant-loop-day
invariant-loop-day l = record {
  days : l.days ≡ sum_by (λ day. if is_set (day_field (row_at l.sheet.rows l.row) day) then 2 ^ day else 0) (range_with_len 0 l.day);
  below : l.days < 2 ^ l.day;
  none : flat_map (day_faults l.row (row_at l.sheet.rows l.row)) (range_with_len 0 l.day) ≡ [];
}
