-- What trips weigh in a window: 1000 for each departure in it. Rows of frequencies.txt as in the GTFS Schedule reference;
-- the weights are our own. Here: docs/FORMATS.md.
use Rattle.std.specs.Prelude.{◌&&◌, ◌==◌, ◌-◌, ◌*◌, ◌/◌, ◌%◌, ℕ, Bool, List, count_by, nat_le, nat_lt, if◌then◌else◌}
use Rattle.std.specs.List.{range_with_len}
use Rattle.gtfs_rows.specs.declared.timetable.Band.{Band}
use Rattle.service_period.specs.Periods.{PeriodData}

-- whether a second lies from a first one on and before a last one
abbrev pub is_between : ℕ → ℕ → ℕ → Bool
is_between from to second = nat_le from second && nat_lt second to

-- the seconds from a first one on and before a last one
abbrev pub seconds_between : ℕ → ℕ → List ℕ
seconds_between from to = range_with_len from (to - from)

-- the weight of a trip without bands, by its first departure
abbrev pub trip_weight_of : PeriodData → ℕ → ℕ
trip_weight_of period first_departure = if is_between period.from period.to first_departure then 1000 else 0

-- how many seconds of the window lie in the band
unfoldable pub shared_seconds : PeriodData → Band → ℕ
shared_seconds period band = count_by (is_between band.begins band.ends) (seconds_between period.from period.to)

-- whether the trip departs at this second: whole headways after the beginning of the band, and before its end
abbrev pub is_departure : Band → ℕ → Bool
is_departure band second = is_between band.begins band.ends second && ((second - band.begins) % band.headway == 0)

-- at how many seconds of the window the trip departs
unfoldable pub departures : PeriodData → Band → ℕ
departures period band = count_by (is_departure band) (seconds_between period.from period.to)

-- the weight of a band: 1000 for each departure where they are exact; else 1000 times the seconds that it shares with
-- the window over its headway, rounded down
abbrev pub band_weight_of : PeriodData → Band → ℕ
band_weight_of period band = if band.exact then 1000 * departures period band else 1000 * shared_seconds period band / band.headway

-- the greatest weight of a band: one departure in each second of the longest window
abbrev pub greatest_band_weight : ℕ
greatest_band_weight = 172800000
