-- The bands of frequencies.txt. After the GTFS Schedule reference, frequencies.txt. Here: docs/FORMATS.md.
use Rattle.std.specs.Prelude.{◌==◌, ◌||◌, ◌++◌, ℕ, Bool, not, List, filter_map, is_none, nat_lt, option_map, unwrap_or, codes}
use Rattle.std.specs.Str.{bytes_eq}
use Rattle.gtfs_rows.specs.Fields.{clock_of, whole_of}
use Rattle.gtfs_rows.specs.declared.timetable.Band.{Band}
use Rattle.feed_reader.specs.declared.fault.FeedFault.{FeedFault}
use Rattle.feed_reader.specs.declared.fault.FeedFault.TheVariants as fault
use Rattle.feed_reader.specs.Columns.{frequencies_file}
use Rattle.feed_reader.specs.Faults.{Fields, bad_field, fault_if, faults_of_rows, field, is_empty, place_in, row_at}
use Rattle.feed_reader.specs.Ids.{is_known, number_of}

-- the greatest headway, in seconds
abbrev pub HEADWAY_LIMIT : ℕ
HEADWAY_LIMIT = 1000000

-- the field of a row that names its trip
abbrev pub band_trip : Fields → List ℕ
band_trip row = field row 0

-- the field of a row with the time from which its band holds
abbrev pub begin_field : Fields → List ℕ
begin_field row = field row 1

-- the field of a row with the time before which its band holds
abbrev pub end_field : Fields → List ℕ
end_field row = field row 2

-- the field of a row with its headway
abbrev pub headway_field : Fields → List ℕ
headway_field row = field row 3

-- the field of a row that says whether departures are exact
abbrev pub exact_field : Fields → List ℕ
exact_field row = field row 4

-- the second from which the band of a row holds, 0 where the field is no time
abbrev pub begin_of : Fields → ℕ
begin_of row = unwrap_or (clock_of (begin_field row)) 0

-- the second before which the band of a row holds, 0 where the field is no time
abbrev pub end_of : Fields → ℕ
end_of row = unwrap_or (clock_of (end_field row)) 0

-- the headway of a row, 0 where the field is no number
abbrev pub headway_of : Fields → ℕ
headway_of row = unwrap_or (whole_of (headway_field row)) 0

-- whether a row says that departures are exact
abbrev pub is_exact : Fields → Bool
is_exact row = bytes_eq (exact_field row) (codes "1")

-- whether a row says that departures are exact, or that they are not
abbrev pub says_exact : Fields → Bool
says_exact row = is_exact row || (is_empty (exact_field row) || bytes_eq (exact_field row) (codes "0"))

-- the faults of a row, where trips.txt has these trips: an unknown trip, fields that are none, a headway of 0 or past the
-- limit, an end before the beginning
abbrev pub band_faults : List (List ℕ) → List Fields → ℕ → List FeedFault
band_faults trips rows number =
    fault_if (not (is_known trips (band_trip (row_at rows number)))) (fault.UnknownId (place_in frequencies_file number (codes "trip_id") (band_trip (row_at rows number))))
    ++ fault_if (is_none (clock_of (begin_field (row_at rows number)))) (bad_field (place_in frequencies_file number (codes "start_time") (begin_field (row_at rows number))))
    ++ fault_if (is_none (clock_of (end_field (row_at rows number)))) (bad_field (place_in frequencies_file number (codes "end_time") (end_field (row_at rows number))))
    ++ fault_if (is_none (whole_of (headway_field (row_at rows number)))) (bad_field (place_in frequencies_file number (codes "headway_secs") (headway_field (row_at rows number))))
    ++ fault_if (not (says_exact (row_at rows number))) (bad_field (place_in frequencies_file number (codes "exact_times") (exact_field (row_at rows number))))
    ++ fault_if ((headway_of (row_at rows number) == 0) || nat_lt HEADWAY_LIMIT (headway_of (row_at rows number)))
    (fault.BadHeadway (place_in frequencies_file number (codes "headway_secs") (headway_field (row_at rows number))))
    ++ fault_if (nat_lt (end_of (row_at rows number)) (begin_of (row_at rows number)))
    (fault.BadHeadway (place_in frequencies_file number (codes "end_time") (end_field (row_at rows number))))

-- the faults of all rows of frequencies.txt
abbrev pub frequencies_faults : List (List ℕ) → List Fields → List FeedFault
frequencies_faults trips rows = faults_of_rows (band_faults trips rows) rows

-- the band of a row of the trip of this number
abbrev pub band_of : Fields → ℕ → Band
band_of row trip = record { trip = trip; begins = begin_of row; ends = end_of row; headway = headway_of row; exact = is_exact row }

-- the bands of the rows of these trips, which were not set aside
abbrev pub bands_of : List (List ℕ) → List Fields → List Band
bands_of kept rows = filter_map (λ row. option_map (band_of row) (number_of kept (band_trip row))) rows
