-- The faults of rows of the calendars, part by part.
use Rattle.std.specs.Prelude.{◌||◌, ◌++◌, ℕ, not, List, map, flat_map, codes}
use Rattle.std.specs.List.{range_with_len}
use Rattle.feed_reader.specs.declared.fault.FeedFault.{FeedFault}
use Rattle.feed_reader.specs.declared.fault.FeedFault.TheVariants as fault
use Rattle.feed_reader.specs.Calendars.{adds, date_faults, day_faults, removes, service_id}
use Rattle.feed_reader.specs.Columns.{calendar_dates_file, calendar_file}
use Rattle.feed_reader.specs.Faults.{Fields, bad_field, fault_if, field, is_empty, place_in, row_at}
use Rattle.feed_reader.specs.Ids.{stood_before}

-- the faults of a service of calendar.txt: it is empty, or stood before
abbrev pub service_faults : List Fields → ℕ → List FeedFault
service_faults rows number =
    fault_if (is_empty (service_id (row_at rows number))) (bad_field (place_in calendar_file number (codes "service_id") (service_id (row_at rows number))))
    ++ fault_if (stood_before (map service_id rows) number) (fault.DoubleId (place_in calendar_file number (codes "service_id") (service_id (row_at rows number))))

-- the faults of the other fields of calendar.txt: a day that is no flag, a field that is no date
abbrev pub week_field_faults : List Fields → ℕ → List FeedFault
week_field_faults rows number =
    flat_map (day_faults number (row_at rows number)) (range_with_len 0 7)
    ++ date_faults calendar_file number (codes "start_date") (field (row_at rows number) 8)
    ++ date_faults calendar_file number (codes "end_date") (field (row_at rows number) 9)

-- the fault of a type of calendar_dates.txt that neither adds nor removes
abbrev pub exception_type_faults : List Fields → ℕ → List FeedFault
exception_type_faults rows number =
    fault_if (not (adds (field (row_at rows number) 2) || removes (field (row_at rows number) 2)))
    (bad_field (place_in calendar_dates_file number (codes "exception_type") (field (row_at rows number) 2)))
