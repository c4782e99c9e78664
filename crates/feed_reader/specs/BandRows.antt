-- The faults of a row of frequencies.txt, part by part, and the bounds of a band.
use Rattle.std.specs.Prelude.{◌==◌, ◌||◌, ◌++◌, ◌≤◌, ◌<◌, ℕ, not, List, Option, is_none, nat_lt, option_map, codes}
use Rattle.gtfs_rows.specs.Fields.{clock_of, whole_of}
use Rattle.gtfs_rows.specs.declared.timetable.Band.{Band}
use Rattle.feed_reader.specs.declared.fault.FeedFault.{FeedFault}
use Rattle.feed_reader.specs.declared.fault.FeedFault.TheVariants as fault
use Rattle.feed_reader.specs.Columns.{frequencies_file}
use Rattle.feed_reader.specs.Faults.{Fields, bad_field, fault_if, place_in, row_at}
use Rattle.feed_reader.specs.Frequencies.{HEADWAY_LIMIT, band_of, band_trip, begin_field, begin_of, end_field, end_of, exact_field, headway_field, headway_of, says_exact}
use Rattle.feed_reader.specs.Ids.{is_known}
use Rattle.feed_reader.specs.Kept.{kept_number}

-- the fault of a trip that is none of these
abbrev pub band_trip_faults : List (List ℕ) → List Fields → ℕ → List FeedFault
band_trip_faults trips rows number =
    fault_if (not (is_known trips (band_trip (row_at rows number)))) (fault.UnknownId (place_in frequencies_file number (codes "trip_id") (band_trip (row_at rows number))))

-- the fault of a field that is no clock
abbrev pub clock_faults : ℕ → List ℕ → List ℕ → List FeedFault
clock_faults number column bytes = fault_if (is_none (clock_of bytes)) (bad_field (place_in frequencies_file number column bytes))

-- the fault of a headway that is no number
abbrev pub headway_faults : List Fields → ℕ → List FeedFault
headway_faults rows number = fault_if (is_none (whole_of (headway_field (row_at rows number)))) (bad_field (place_in frequencies_file number (codes "headway_secs") (headway_field (row_at rows number))))

-- the fault of a field that does not say whether departures are exact
abbrev pub exact_faults : List Fields → ℕ → List FeedFault
exact_faults rows number = fault_if (not (says_exact (row_at rows number))) (bad_field (place_in frequencies_file number (codes "exact_times") (exact_field (row_at rows number))))

-- the faults of the fields behind the trip
abbrev pub band_field_faults : List Fields → ℕ → List FeedFault
band_field_faults rows number =
    clock_faults number (codes "start_time") (begin_field (row_at rows number))
    ++ clock_faults number (codes "end_time") (end_field (row_at rows number))
    ++ headway_faults rows number
    ++ exact_faults rows number

-- the faults of their values: a headway of 0 or past the limit, an end before the beginning
abbrev pub band_value_faults : List Fields → ℕ → List FeedFault
band_value_faults rows number =
    fault_if ((headway_of (row_at rows number) == 0) || nat_lt HEADWAY_LIMIT (headway_of (row_at rows number)))
    (fault.BadHeadway (place_in frequencies_file number (codes "headway_secs") (headway_field (row_at rows number))))
    ++ fault_if (nat_lt (end_of (row_at rows number)) (begin_of (row_at rows number)))
    (fault.BadHeadway (place_in frequencies_file number (codes "end_time") (end_field (row_at rows number))))

-- the band of a row, by the numbers of the trips that are kept
abbrev pub band_by : List (List ℕ) → List (Option ℕ) → Fields → Option Band
band_by trips numbers row = option_map (band_of row) (kept_number trips numbers (band_trip row))

-- a band has a headway within its limits
pub record HasHeadway (band : Band) : Type 0 where
  pub some : 1 ≤ band.headway
  pub most : band.headway ≤ HEADWAY_LIMIT

-- a band has one of so many trips, and a headway within its limits
pub record IsBandWithin (trips : ℕ) (band : Band) : Type 0 where
  pub trip : band.trip < trips
  pub some : 1 ≤ band.headway
  pub most : band.headway ≤ HEADWAY_LIMIT
