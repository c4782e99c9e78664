-- The files of a feed in reading order, and the columns that are wanted of each. After the GTFS Schedule reference.
-- Here: docs/FORMATS.md.
use Rattle.std.specs.Prelude.{ℕ, true, false, List, [], ◌∷◌, codes}
use Rattle.gtfs_rows.specs.declared.wanted.Column.{Column}

-- the name of the file of stops and stations
abbrev pub stops_file : List ℕ
stops_file = codes "stops.txt"

-- the name of the file of routes
abbrev pub routes_file : List ℕ
routes_file = codes "routes.txt"

-- the name of the file of weeks
abbrev pub calendar_file : List ℕ
calendar_file = codes "calendar.txt"

-- the name of the file of exceptions
abbrev pub calendar_dates_file : List ℕ
calendar_dates_file = codes "calendar_dates.txt"

-- the name of the file of trips
abbrev pub trips_file : List ℕ
trips_file = codes "trips.txt"

-- the name of the file of calls
abbrev pub stop_times_file : List ℕ
stop_times_file = codes "stop_times.txt"

-- the name of the file of bands
abbrev pub frequencies_file : List ℕ
frequencies_file = codes "frequencies.txt"

-- the name of the file of transfers
abbrev pub transfers_file : List ℕ
transfers_file = codes "transfers.txt"

-- the files of a feed, in reading order
abbrev pub file_names : List (List ℕ)
file_names = stops_file ∷ routes_file ∷ calendar_file ∷ calendar_dates_file ∷ trips_file ∷ stop_times_file ∷ frequencies_file ∷ transfers_file ∷ []

-- a column that has to be there
abbrev pub required : List ℕ → Column
required name = record { name = name; required = true }

-- a column that may be absent
abbrev pub optional : List ℕ → Column
optional name = record { name = name; required = false }

-- the columns that are wanted of stops.txt
abbrev pub stop_columns : List Column
stop_columns = required (codes "stop_id") ∷ optional (codes "location_type") ∷ optional (codes "parent_station") ∷ []

-- the columns that are wanted of routes.txt
abbrev pub route_columns : List Column
route_columns = required (codes "route_id") ∷ []

-- the columns that are wanted of calendar.txt
abbrev pub calendar_columns : List Column
calendar_columns = required (codes "service_id") ∷ required (codes "monday") ∷ required (codes "tuesday") ∷ required (codes "wednesday")
    ∷ required (codes "thursday") ∷ required (codes "friday") ∷ required (codes "saturday") ∷ required (codes "sunday")
    ∷ required (codes "start_date") ∷ required (codes "end_date") ∷ []

-- the columns that are wanted of calendar_dates.txt
abbrev pub calendar_date_columns : List Column
calendar_date_columns = required (codes "service_id") ∷ required (codes "date") ∷ required (codes "exception_type") ∷ []

-- the columns that are wanted of trips.txt
abbrev pub trip_columns : List Column
trip_columns = required (codes "route_id") ∷ required (codes "service_id") ∷ required (codes "trip_id") ∷ []

-- the columns that are wanted of stop_times.txt
abbrev pub stop_time_columns : List Column
stop_time_columns = required (codes "trip_id") ∷ required (codes "arrival_time") ∷ required (codes "departure_time") ∷ required (codes "stop_id")
    ∷ required (codes "stop_sequence") ∷ optional (codes "pickup_type") ∷ optional (codes "drop_off_type") ∷ []

-- the columns that are wanted of frequencies.txt
abbrev pub frequency_columns : List Column
frequency_columns = required (codes "trip_id") ∷ required (codes "start_time") ∷ required (codes "end_time") ∷ required (codes "headway_secs")
    ∷ optional (codes "exact_times") ∷ []

-- the columns that are wanted of transfers.txt
abbrev pub transfer_columns : List Column
transfer_columns = required (codes "from_stop_id") ∷ required (codes "to_stop_id") ∷ optional (codes "transfer_type") ∷ optional (codes "min_transfer_time")
    ∷ optional (codes "from_route_id") ∷ optional (codes "to_route_id") ∷ optional (codes "from_trip_id") ∷ optional (codes "to_trip_id") ∷ []
