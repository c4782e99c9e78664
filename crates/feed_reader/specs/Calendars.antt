-- The weeks of calendar.txt and the exceptions of calendar_dates.txt. After the GTFS Schedule reference.
-- Here: docs/FORMATS.md.
use Rattle.std.specs.Prelude.{◌≡◌, ◌+◌, ◌^◌, ◌||◌, ◌++◌, ℕ, Bool, not, List, [], ◌∷◌, Some, map, is_none, flat_map, sum_by, slice_index_or, codes, if◌then◌else◌}
use Rattle.std.specs.List.{range_with_len}
use Rattle.std.specs.Str.{bytes_eq}
use Rattle.gtfs_rows.specs.Fields.{date_of, ymd_of}
use Rattle.gtfs_rows.specs.declared.timetable.Week.{Week}
use Rattle.gtfs_rows.specs.declared.timetable.Exception.{Exception}
use Rattle.feed_reader.specs.declared.fault.FeedFault.{FeedFault}
use Rattle.feed_reader.specs.declared.fault.FeedFault.TheVariants as fault
use Rattle.feed_reader.specs.Columns.{calendar_dates_file, calendar_file}
use Rattle.feed_reader.specs.Faults.{Fields, bad_field, fault_if, faults_of_rows, field, is_empty, place_in, row_at}
use Rattle.feed_reader.specs.Ids.{number_of, stood_before}

-- the id of a service, in a row of either file
abbrev pub service_id : Fields → List ℕ
service_id row = field row 0

-- whether a field of a day says that it is set
abbrev pub is_set : List ℕ → Bool
is_set bytes = bytes_eq bytes (codes "1")

-- whether a field of a day says that it is set, or that it is not
abbrev pub is_flag : List ℕ → Bool
is_flag bytes = is_set bytes || bytes_eq bytes (codes "0")

-- the seven columns of the days of the week, which follow that of the service
abbrev pub day_names : List (List ℕ)
day_names = codes "monday" ∷ codes "tuesday" ∷ codes "wednesday" ∷ codes "thursday" ∷ codes "friday" ∷ codes "saturday" ∷ codes "sunday" ∷ []

-- the field of a day of a row, where Monday is day 0
abbrev pub day_field : Fields → ℕ → List ℕ
day_field row day = field row (1 + day)

-- the fault of a day of a row: neither 0 nor 1
abbrev pub day_faults : ℕ → Fields → ℕ → List FeedFault
day_faults number row day = fault_if (not (is_flag (day_field row day))) (bad_field (place_in calendar_file number (slice_index_or day_names day []) (day_field row day)))

-- the fault of a field that is no date
abbrev pub date_faults : List ℕ → ℕ → List ℕ → List ℕ → List FeedFault
date_faults file number column bytes = fault_if (is_none (date_of bytes)) (bad_field (place_in file number column bytes))

-- the faults of a row of calendar.txt: an empty service, a service that stood before, a day that is no flag, a field that is no date
abbrev pub week_faults : List Fields → ℕ → List FeedFault
week_faults rows number =
    fault_if (is_empty (service_id (row_at rows number))) (bad_field (place_in calendar_file number (codes "service_id") (service_id (row_at rows number))))
    ++ fault_if (stood_before (map service_id rows) number) (fault.DoubleId (place_in calendar_file number (codes "service_id") (service_id (row_at rows number))))
    ++ flat_map (day_faults number (row_at rows number)) (range_with_len 0 7)
    ++ date_faults calendar_file number (codes "start_date") (field (row_at rows number) 8)
    ++ date_faults calendar_file number (codes "end_date") (field (row_at rows number) 9)

-- the faults of all rows of calendar.txt
abbrev pub calendar_faults : List Fields → List FeedFault
calendar_faults rows = faults_of_rows (week_faults rows) rows

-- the days that a row sets: Monday counts 1, Tuesday 2, and so on to Sunday, which counts 64
abbrev pub days_of : Fields → ℕ
days_of row = sum_by (λ day. if is_set (day_field row day) then 2 ^ day else 0) (range_with_len 0 7)

-- a week is that of a row
pub record IsWeekOf (services : List (List ℕ)) (row : Fields) (week : Week) : Type 0 where
  pub service : number_of services (service_id row) ≡ Some week.service
  pub days : week.days ≡ days_of row
  pub first : date_of (field row 8) ≡ Some (ymd_of week.first)
  pub last : date_of (field row 9) ≡ Some (ymd_of week.last)

-- whether a type of an exception adds its date
abbrev pub adds : List ℕ → Bool
adds bytes = bytes_eq bytes (codes "1")

-- whether a type of an exception removes its date
abbrev pub removes : List ℕ → Bool
removes bytes = bytes_eq bytes (codes "2")

-- the faults of a row of calendar_dates.txt: an empty service, a field that is no date, a type that neither adds nor removes
abbrev pub exception_faults : List Fields → ℕ → List FeedFault
exception_faults rows number =
    fault_if (is_empty (service_id (row_at rows number))) (bad_field (place_in calendar_dates_file number (codes "service_id") (service_id (row_at rows number))))
    ++ date_faults calendar_dates_file number (codes "date") (field (row_at rows number) 1)
    ++ fault_if (not (adds (field (row_at rows number) 2) || removes (field (row_at rows number) 2)))
    (bad_field (place_in calendar_dates_file number (codes "exception_type") (field (row_at rows number) 2)))

-- the faults of all rows of calendar_dates.txt
abbrev pub calendar_dates_faults : List Fields → List FeedFault
calendar_dates_faults rows = faults_of_rows (exception_faults rows) rows

-- an exception is that of a row
pub record IsExceptionOf (services : List (List ℕ)) (row : Fields) (exception : Exception) : Type 0 where
  pub service : number_of services (service_id row) ≡ Some exception.service
  pub date : date_of (field row 1) ≡ Some (ymd_of exception.date)
  pub adds : exception.adds ≡ adds (field row 2)
