-- The forms of fields and the value of each. Here: docs/FORMATS.md; clocks and dates are those of the
-- GTFS Schedule reference, and a civil date is one of the Gregorian calendar, as the crate jiff has it.
use Rattle.std.specs.Prelude.{◌&&◌, ◌||◌, ◌==◌, ◌+◌, ◌*◌, ◌++◌, ℕ, ℤ, Bool, not, List, Option, Some, None, length, take, drop, codes, pos, nat_le, nat_lt, if◌then◌else◌, option_and_then}
use Rattle.std.specs.List.{before_first, after_first, list_all, list_any}
use Rattle.std.specs.Char.{is_ascii_digit}
use Rattle.std.specs.Str.Parse.{digits_value}
use Rattle.jiff.specs.Words.{days_in_month}
use Rattle.jiff_core.specs.declared.civil.date.Date.{Date}
use Rattle.gtfs_rows.specs.declared.amount.Trips.{Trips}

-- whether bytes are one digit or more
abbrev pub is_digits : List ℕ → Bool
is_digits bytes = nat_lt 0 (length bytes) && list_all is_ascii_digit bytes

-- whether bytes are one digit or more, and at most so many
abbrev pub is_number : ℕ → List ℕ → Bool
is_number most bytes = nat_le (length bytes) most && is_digits bytes

-- the number that one digit or more write, at most so many; leading zeros are permitted
abbrev pub number_in : ℕ → List ℕ → Option ℕ
number_in most field = if is_number most field then Some (digits_value 10 field) else None

-- 1 to 18 digits
abbrev pub whole_of : List ℕ → Option ℕ
whole_of field = number_in 18 field

-- two digits, 00 to 59
abbrev pub sixty_of : List ℕ → Option ℕ
sixty_of field = if (length field == 2) && (is_number 2 field && nat_lt (digits_value 10 field) 60) then Some (digits_value 10 field) else None

-- the seconds of hours, minutes and seconds, where all three are there
abbrev pub seconds_of : Option ℕ → Option ℕ → Option ℕ → Option ℕ
seconds_of hours minutes seconds = option_and_then (λ h. option_and_then (λ m. option_and_then (λ s. Some (h * 3600 + m * 60 + s)) seconds) minutes) hours

-- whether a byte is a colon
abbrev pub is_colon : ℕ → Bool
is_colon byte = byte == 58

-- the part of a field before its first colon, all of it where there is none, and the part behind it
abbrev pub before_colon : List ℕ → List ℕ
before_colon field = before_first is_colon field

abbrev pub behind_colon : List ℕ → List ℕ
behind_colon field = after_first is_colon field

-- hours of 1 to 3 digits, a colon, minutes, a colon and seconds
abbrev pub clock_of : List ℕ → Option ℕ
clock_of field = seconds_of (number_in 3 (before_colon field)) (sixty_of (before_colon (behind_colon field))) (sixty_of (behind_colon (behind_colon field)))

-- what a contract sees of a date: its year, month and day
abbrev pub ymd_of : Date → ℤ × ℕ × ℕ
ymd_of date = (date.year, date.month, date.day)

-- whether the calendar has this day, in the years 1 to 9999
abbrev pub is_civil : ℕ → ℕ → ℕ → Bool
is_civil year month day = nat_le 1 year && (nat_le year 9999 && (nat_le 1 month && (nat_le month 12
    && (nat_le 1 day && nat_le day (days_in_month (pos year) month)))))

-- the day of a year, a month and a day, where the calendar has it
abbrev pub civil_at : ℕ → ℕ → ℕ → Option (ℤ × ℕ × ℕ)
civil_at year month day = if is_civil year month day then Some (pos year, month, day) else None

-- the same, where all three are there
abbrev pub civil_of : Option ℕ → Option ℕ → Option ℕ → Option (ℤ × ℕ × ℕ)
civil_of year month day = option_and_then (λ y. option_and_then (λ m. option_and_then (λ d. civil_at y m d) day) month) year

-- eight digits: a year of four, a month of two and a day of two
abbrev pub date_of : List ℕ → Option (ℤ × ℕ × ℕ)
date_of field = if length field == 8 then civil_of (number_in 4 (take 4 field)) (number_in 2 (take 2 (drop 4 field))) (number_in 2 (drop 6 field)) else None

-- whether a byte is a point
abbrev pub is_point : ℕ → Bool
is_point byte = byte == 46

-- the part of a field before its first point, all of it where there is none, and the part behind it
abbrev pub before_point : List ℕ → List ℕ
before_point field = before_first is_point field

abbrev pub behind_point : List ℕ → List ℕ
behind_point field = after_first is_point field

-- the millionths that decimals write: six of them count, and missing ones are zeros
abbrev pub millionths : List ℕ → ℕ
millionths decimals = digits_value 10 (take 6 (decimals ++ codes "000000"))

-- whether a decimal past the sixth is not 0
abbrev pub loses_digit : List ℕ → Bool
loses_digit decimals = not (list_all (λ digit. digit == 48) (drop 6 decimals))

-- whether a field is 1 to 12 digits, and then nothing, or a point and one digit or more
abbrev pub has_trips_form : List ℕ → Bool
has_trips_form field = is_number 12 (before_point field)
    && (not (list_any is_point field) || is_digits (behind_point field))

-- the millionths of a number of trips, and whether a digit other than 0 was dropped
abbrev pub trips_of : List ℕ → Option Trips
trips_of field =
    if has_trips_form field then Some (record {
      units = digits_value 10 (before_point field) * 1000000 + millionths (behind_point field);
      dropped = loses_digit (behind_point field);
    }) else None
