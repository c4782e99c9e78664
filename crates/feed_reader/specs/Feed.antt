-- The feed of the files of a folder. After the GTFS Schedule reference. Here: docs/FORMATS.md.
use Rattle.std.specs.Prelude.{◌≡◌, ◌++◌, ℕ, Bool, true, false, not, List, [], Option, Some, None, map, filter, flat_map, count_by, is_none}
use Rattle.std.specs.List.{AllZip}
use Rattle.gtfs_rows.specs.Faults.{sheet_faults}
use Rattle.gtfs_rows.specs.Sheets.{sheet_of}
use Rattle.gtfs_rows.specs.declared.timetable.Band.{Band}
use Rattle.gtfs_rows.specs.declared.timetable.Week.{Week}
use Rattle.gtfs_rows.specs.declared.timetable.Exception.{Exception}
use Rattle.gtfs_rows.specs.declared.wanted.Column.{Column}
use Rattle.feed_reader.specs.declared.fault.FeedFault.{FeedFault}
use Rattle.feed_reader.specs.declared.fault.FeedFault.TheVariants as fault
use Rattle.feed_reader.specs.declared.row_call.RowCall.{RowCall}
use Rattle.feed_reader.specs.declared.timetable.Aside.{Aside}
use Rattle.feed_reader.specs.declared.timetable.Call.{Call}
use Rattle.feed_reader.specs.declared.timetable.Stop.{Stop}
use Rattle.feed_reader.specs.declared.timetable.Transfer.{Transfer}
use Rattle.feed_reader.specs.declared.timetable.Trip.{Trip}
use Rattle.feed_reader.specs.Calendars.{IsExceptionOf, IsWeekOf, calendar_dates_faults, calendar_faults, service_id}
use Rattle.feed_reader.specs.Calls.{calls_of, is_aside, trip_call_faults}
use Rattle.feed_reader.specs.Columns as columns
use Rattle.feed_reader.specs.Faults.{Fields, fault_if}
use Rattle.feed_reader.specs.Frequencies.{bands_of, frequencies_faults}
use Rattle.feed_reader.specs.Ids.{first_ids}
use Rattle.feed_reader.specs.Routes.{routes_faults, routes_of}
use Rattle.feed_reader.specs.Stops.{stop_id, stop_ids, stops_faults, stops_of}
use Rattle.feed_reader.specs.StopTimes.{calls_faults, row_calls}
use Rattle.feed_reader.specs.Transfers.{transfers_aside, transfers_faults, transfers_of}
use Rattle.feed_reader.specs.Trips.{trip_id, trip_of, trip_service, trips_faults}

-- the bytes of each file of a feed, where it is there
pub record FilesData : Type 0 where
  pub stops : Option (List ℕ)
  pub routes : Option (List ℕ)
  pub calendar : Option (List ℕ)
  pub calendar_dates : Option (List ℕ)
  pub trips : Option (List ℕ)
  pub stop_times : Option (List ℕ)
  pub frequencies : Option (List ℕ)
  pub transfers : Option (List ℕ)

-- the rows of a file behind its header, none where there is no file
abbrev pub rows_of : List Column → Option (List ℕ) → List Fields
rows_of wanted None = []
rows_of wanted (Some bytes) = (sheet_of bytes wanted).rows

-- the rows of stops.txt
abbrev pub stop_rows : FilesData → List Fields
stop_rows files = rows_of columns.stop_columns files.stops

-- the rows of routes.txt
abbrev pub route_rows : FilesData → List Fields
route_rows files = rows_of columns.route_columns files.routes

-- the rows of calendar.txt
abbrev pub week_rows : FilesData → List Fields
week_rows files = rows_of columns.calendar_columns files.calendar

-- the rows of calendar_dates.txt
abbrev pub exception_rows : FilesData → List Fields
exception_rows files = rows_of columns.calendar_date_columns files.calendar_dates

-- the rows of trips.txt
abbrev pub trip_rows : FilesData → List Fields
trip_rows files = rows_of columns.trip_columns files.trips

-- the rows of stop_times.txt
abbrev pub call_rows : FilesData → List Fields
call_rows files = rows_of columns.stop_time_columns files.stop_times

-- the rows of frequencies.txt
abbrev pub band_rows : FilesData → List Fields
band_rows files = rows_of columns.frequency_columns files.frequencies

-- the rows of transfers.txt
abbrev pub transfer_rows : FilesData → List Fields
transfer_rows files = rows_of columns.transfer_columns files.transfers

-- the ids of the routes, in the order of routes.txt
abbrev pub routes_in : FilesData → List (List ℕ)
routes_in files = routes_of (route_rows files)

-- the ids of the services in the order of their first appearance, in calendar.txt, then calendar_dates.txt, then trips.txt
abbrev pub services_in : FilesData → List (List ℕ)
services_in files = first_ids (map service_id (week_rows files) ++ map service_id (exception_rows files) ++ map trip_service (trip_rows files))

-- the ids of the rows of trips.txt
abbrev pub trip_ids : FilesData → List (List ℕ)
trip_ids files = map trip_id (trip_rows files)

-- the rows of stop_times.txt of the trip of a row of trips.txt, by sequence
abbrev pub calls_in : FilesData → Fields → List RowCall
calls_in files trip = row_calls (stop_ids (stop_rows files)) (call_rows files) (trip_id trip)

-- the rows of the trips that are not set aside
abbrev pub kept_rows : FilesData → List Fields
kept_rows files = filter (λ trip. not (is_aside (calls_in files trip))) (trip_rows files)

-- the faults of a file: it is missing where it is needed; then those of its sheet; then those of its rows
abbrev pub file_faults : List ℕ → Bool → List Column → Option (List ℕ) → List FeedFault → List FeedFault
file_faults name needed wanted None of_rows = fault_if needed (fault.MissingFile name)
file_faults name needed wanted (Some bytes) of_rows = map fault.Row (sheet_faults name bytes wanted) ++ of_rows

-- the faults of the rows of stop_times.txt, and then of each trip in the order of trips.txt
abbrev pub stop_times_faults : FilesData → List FeedFault
stop_times_faults files =
    calls_faults (trip_ids files) (map stop_id (stop_rows files)) (call_rows files)
    ++ flat_map (λ trip. trip_call_faults (call_rows files) (calls_in files trip)) (trip_rows files)

-- all faults of the files, in reading order; one of the two calendars is enough
abbrev pub feed_faults : FilesData → List FeedFault
feed_faults files =
    file_faults columns.stops_file true columns.stop_columns files.stops (stops_faults (stop_rows files))
    ++ file_faults columns.routes_file true columns.route_columns files.routes (routes_faults (route_rows files))
    ++ file_faults columns.calendar_file (is_none files.calendar_dates) columns.calendar_columns files.calendar (calendar_faults (week_rows files))
    ++ file_faults columns.calendar_dates_file false columns.calendar_date_columns files.calendar_dates (calendar_dates_faults (exception_rows files))
    ++ file_faults columns.trips_file true columns.trip_columns files.trips (trips_faults (routes_in files) (trip_rows files))
    ++ file_faults columns.stop_times_file true columns.stop_time_columns files.stop_times (stop_times_faults files)
    ++ file_faults columns.frequencies_file false columns.frequency_columns files.frequencies (frequencies_faults (trip_ids files) (band_rows files))
    ++ file_faults columns.transfers_file false columns.transfer_columns files.transfers (transfers_faults (stop_rows files) (transfer_rows files))

-- what a contract sees of a feed: its lists, each in file order, and the calls of each trip
pub record FeedData : Type 0 where
  pub stops : List Stop
  pub routes : List (List ℕ)
  pub services : List (List ℕ)
  pub trips : List Trip
  pub calls : List (List Call)
  pub bands : List Band
  pub weeks : List Week
  pub exceptions : List Exception
  pub transfers : List Transfer
  pub aside : Aside

-- a feed is that of the files
pub record IsFeedOf (files : FilesData) (feed : FeedData) : Type 0 where
  pub stops : feed.stops ≡ stops_of (stop_rows files)
  pub routes : feed.routes ≡ routes_in files
  pub services : feed.services ≡ services_in files
  pub trips : feed.trips ≡ map (trip_of (routes_in files) (services_in files)) (kept_rows files)
  pub calls : feed.calls ≡ map (λ trip. calls_of (calls_in files trip)) (kept_rows files)
  pub bands : feed.bands ≡ bands_of (map trip_id (kept_rows files)) (band_rows files)
  pub weeks : AllZip (IsWeekOf (services_in files)) (week_rows files) feed.weeks
  pub exceptions : AllZip (IsExceptionOf (services_in files)) (exception_rows files) feed.exceptions
  pub transfers : feed.transfers ≡ transfers_of (stop_rows files) (transfer_rows files)
  pub trips_aside : feed.aside.trips ≡ count_by (λ trip. is_aside (calls_in files trip)) (trip_rows files)
  pub transfers_aside : feed.aside.transfers ≡ transfers_aside (stop_rows files) (transfer_rows files)
