-- The faults of each file of a feed, in reading order, and what they are where the file is there.
use Rattle.std.specs.Prelude.{◌++◌, ℕ, true, false, List, map, is_none}
use Rattle.gtfs_rows.specs.Faults.{sheet_faults}
use Rattle.gtfs_rows.specs.Sheets.{sheet_of}
use Rattle.gtfs_rows.specs.declared.wanted.Column.{Column}
use Rattle.feed_reader.specs.declared.fault.FeedFault.{FeedFault}
use Rattle.feed_reader.specs.declared.fault.FeedFault.TheVariants as fault
use Rattle.feed_reader.specs.Calendars.{calendar_dates_faults, calendar_faults}
use Rattle.feed_reader.specs.Columns as columns
use Rattle.feed_reader.specs.Faults.{Fields}
use Rattle.feed_reader.specs.Feed.{FilesData, band_rows, exception_rows, file_faults, route_rows, routes_in, stop_rows, stop_times_faults, transfer_rows, trip_ids, trip_rows, week_rows}
use Rattle.feed_reader.specs.Frequencies.{frequencies_faults}
use Rattle.feed_reader.specs.Routes.{routes_faults}
use Rattle.feed_reader.specs.Stops.{stops_faults}
use Rattle.feed_reader.specs.Transfers.{transfers_faults}
use Rattle.feed_reader.specs.Trips.{trips_faults}

-- the rows of the bytes of a file
abbrev pub rows_of_bytes : List ℕ → List Column → List Fields
rows_of_bytes bytes wanted = (sheet_of bytes wanted).rows

-- the faults of the bytes of a file: those of its sheet, then those of its rows
abbrev pub bytes_faults : List ℕ → List ℕ → List Column → List FeedFault → List FeedFault
bytes_faults name bytes wanted of_rows = map fault.Row (sheet_faults name bytes wanted) ++ of_rows

-- the faults of stops.txt
abbrev pub of_stops : FilesData → List FeedFault
of_stops files = file_faults columns.stops_file true columns.stop_columns files.stops (stops_faults (stop_rows files))

-- the faults of routes.txt
abbrev pub of_routes : FilesData → List FeedFault
of_routes files = file_faults columns.routes_file true columns.route_columns files.routes (routes_faults (route_rows files))

-- the faults of calendar.txt
abbrev pub of_weeks : FilesData → List FeedFault
of_weeks files = file_faults columns.calendar_file (is_none files.calendar_dates) columns.calendar_columns files.calendar (calendar_faults (week_rows files))

-- the faults of calendar_dates.txt
abbrev pub of_exceptions : FilesData → List FeedFault
of_exceptions files = file_faults columns.calendar_dates_file false columns.calendar_date_columns files.calendar_dates (calendar_dates_faults (exception_rows files))

-- the faults of trips.txt
abbrev pub of_trips : FilesData → List FeedFault
of_trips files = file_faults columns.trips_file true columns.trip_columns files.trips (trips_faults (routes_in files) (trip_rows files))

-- the faults of stop_times.txt
abbrev pub of_calls : FilesData → List FeedFault
of_calls files = file_faults columns.stop_times_file true columns.stop_time_columns files.stop_times (stop_times_faults files)

-- the faults of frequencies.txt
abbrev pub of_bands : FilesData → List FeedFault
of_bands files = file_faults columns.frequencies_file false columns.frequency_columns files.frequencies (frequencies_faults (trip_ids files) (band_rows files))

-- the faults of transfers.txt
abbrev pub of_transfers : FilesData → List FeedFault
of_transfers files = file_faults columns.transfers_file false columns.transfer_columns files.transfers (transfers_faults (stop_rows files) (transfer_rows files))

-- the faults of both calendars and of the trips
abbrev pub of_services : FilesData → List FeedFault
of_services files = of_weeks files ++ (of_exceptions files ++ of_trips files)

-- the faults of stop_times.txt and frequencies.txt
abbrev pub of_timetable : FilesData → List FeedFault
of_timetable files = of_calls files ++ of_bands files

-- the faults of the files behind stops.txt and routes.txt
abbrev pub of_lists : FilesData → List FeedFault
of_lists files = of_services files ++ (of_timetable files ++ of_transfers files)
