-- On which dates a service runs. GTFS Schedule reference, calendar.txt and calendar_dates.txt; that the last of several
-- exceptions of one date decides is our own rule. Here: docs/FORMATS.md.
use Rattle.std.specs.Prelude.{◌&&◌, ◌==◌, ◌/◌, ◌%◌, ◌^◌, ℕ, ℤ, Bool, List, Option, Some, None, filter, int_le}
use Rattle.std.specs.List.{last_or, list_any}
use Rattle.std.specs.Ordering.{int_eq}
use Rattle.jiff_core.specs.Calendar.{days_from_civil, weekday_number}
use Rattle.gtfs_rows.specs.Fields.{ymd_of}
use Rattle.gtfs_rows.specs.declared.timetable.Exception.{Exception}
use Rattle.gtfs_rows.specs.declared.timetable.Week.{Week}

-- the number of a day of the calendar, counted from 1 January 1970
abbrev pub day_number : ℤ × ℕ × ℕ → ℤ
day_number date = days_from_civil date.0 date.1 date.2

-- whether a row of calendar_dates.txt is of a service and a date
abbrev pub is_exception_of : ℕ → ℤ × ℕ × ℕ → Exception → Bool
is_exception_of service date exception =
    (exception.service == service) && int_eq (day_number (ymd_of exception.date)) (day_number date)

-- the last row of calendar_dates.txt of a service and a date
abbrev pub last_exception : List Exception → ℕ → ℤ × ℕ × ℕ → Option Exception
last_exception exceptions service date = last_or None (filter (is_exception_of service date) exceptions)

-- whether days of the week, of which bit 0 is Monday, have a weekday, of which 0 is Monday
abbrev pub has_weekday : ℕ → ℕ → Bool
has_weekday days weekday = days / 2 ^ weekday % 2 == 1

-- whether a day lies between two others, both included, on one of the days of the week
abbrev pub is_day_within : ℤ → ℤ → ℕ → ℤ → Bool
is_day_within first last days day = int_le first day && (int_le day last && has_weekday days (weekday_number day))

-- whether a row of calendar.txt is of a service and has a date
abbrev pub is_week_of : ℕ → ℤ × ℕ × ℕ → Week → Bool
is_week_of service date week =
    (week.service == service)
    && is_day_within (day_number (ymd_of week.first)) (day_number (ymd_of week.last)) week.days (day_number date)

-- what an exception says, or else the weeks
abbrev pub decided : Option Exception → Bool → Bool
decided (Some exception) weekly = exception.adds
decided None weekly = weekly

-- whether a service runs on a date: its last exception of that date decides, or else whether some week of it has the date
abbrev pub runs_on : List Week → List Exception → ℕ → ℤ × ℕ × ℕ → Bool
runs_on weeks exceptions service date =
    decided (last_exception exceptions service date) (list_any (is_week_of service date) weeks)
