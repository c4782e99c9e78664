-- A generated city: the files of its feed, and its tables, from a seed and three sizes. Here: docs/FORMATS.md.
use Rattle.std.specs.Prelude.{ℕ, List, [], ◌∷◌, ◌+◌, ◌<◌, ◌≤◌, ◌^◌, codes, length}
use Rattle.std.specs.List.{flat_map, range_with_len}
use Rattle.definitions.specs.declared.limits.TheConstants.{FILE_LIMIT}
use Rattle.definitions.specs.Decimal.{numeral}
use Rattle.desk.specs.declared.gen_words.GenWords.{GenWords}
use Rattle.desk.specs.declared.generating.Generated.{Generated}
use Rattle.desk.specs.GeneratedLines.{call_time, calls, gap_of, headway_of, stop_at, way_of}
use Rattle.desk.specs.GeneratedTables.{demand_sheet, zone_sheet}
use Rattle.desk.specs.Rows.{clock_text, id, row_text, sheet_text}

-- ---- the files that take no draws

-- the stops
abbrev pub stops_text : ℕ → List ℕ
stops_text stops = sheet_text (codes "stop_id") (λ stop. row_text (id (codes "s") stop ∷ [])) stops

-- the routes, one a line
abbrev pub routes_text : ℕ → List ℕ
routes_text lines = sheet_text (codes "route_id") (λ line. row_text (id (codes "r") line ∷ [])) lines

-- the one date on which all trips run
abbrev pub calendar_dates_text : List ℕ
calendar_dates_text = sheet_text (codes "service_id,date,exception_type") (λ _. row_text (codes "all" ∷ codes "20250602" ∷ codes "1" ∷ [])) 1

-- the trips, one a line
abbrev pub trips_text : ℕ → List ℕ
trips_text lines = sheet_text (codes "route_id,service_id,trip_id")
    (λ line. row_text (id (codes "r") line ∷ codes "all" ∷ id (codes "t") line ∷ [])) lines

-- ---- the files of the lines

-- a call: it arrives and departs at one time
abbrev pub call_row : ℕ → ℕ → ℕ → ℕ → List ℕ
call_row line time stop sequence = row_text
    (id (codes "t") line ∷ clock_text time ∷ clock_text time ∷ id (codes "s") stop ∷ numeral sequence ∷ [])

-- a call of a line, the calls counted from 0
abbrev pub call_of : GenWords → ℕ → ℕ → List ℕ
call_of words line call = call_row line (call_time (gap_of words line) call) (stop_at words.stops (way_of words line) call) (call + 1)

-- the calls of a line in order
abbrev pub calls_text : GenWords → ℕ → List ℕ
calls_text words line = flat_map (call_of words line) (range_with_len 0 (calls words.stops (way_of words line)))

-- the calls of the first lines
abbrev pub times_of : GenWords → ℕ → List ℕ
times_of words lines = sheet_text (codes "trip_id,arrival_time,departure_time,stop_id,stop_sequence") (calls_text words) lines

-- how often a line runs, from six in the morning to ten at night
abbrev pub band_row : ℕ → ℕ → List ℕ
band_row line headway = row_text (id (codes "t") line ∷ codes "06:00:00" ∷ codes "22:00:00" ∷ numeral headway ∷ [])

-- how often the first lines run
abbrev pub bands_of : GenWords → ℕ → List ℕ
bands_of words lines = sheet_text (codes "trip_id,start_time,end_time,headway_secs") (λ line. band_row line (headway_of words line)) lines

-- ---- all files

-- the files of a city: those of its feed, and its tables
pub record CityFiles : Type 0 where
  pub stops : List ℕ
  pub routes : List ℕ
  pub calendar_dates : List ℕ
  pub trips : List ℕ
  pub stop_times : List ℕ
  pub frequencies : List ℕ
  pub zones : List ℕ
  pub demand : List ℕ

-- no file of the feed is longer than a file may be
pub record AreShort (files : CityFiles) : Type 0 where
  pub stops : length files.stops ≤ FILE_LIMIT
  pub routes : length files.routes ≤ FILE_LIMIT
  pub calendar_dates : length files.calendar_dates ≤ FILE_LIMIT
  pub trips : length files.trips ≤ FILE_LIMIT
  pub stop_times : length files.stop_times ≤ FILE_LIMIT
  pub frequencies : length files.frequencies ≤ FILE_LIMIT

-- the bytes that were made
abbrev pub files_of : Generated → CityFiles
files_of made = record {
  stops = made.stops.items;
  routes = made.routes.items;
  calendar_dates = made.calendar_dates.items;
  trips = made.trips.items;
  stop_times = made.stop_times.items;
  frequencies = made.frequencies.items;
  zones = made.zones.items;
  demand = made.demand.items;
}

-- the files of the city of these numbers
abbrev pub generated : GenWords → CityFiles
generated words = record {
  stops = stops_text words.stops;
  routes = routes_text words.lines;
  calendar_dates = calendar_dates_text;
  trips = trips_text words.lines;
  stop_times = times_of words words.lines;
  frequencies = bands_of words words.lines;
  zones = zone_sheet words words.zones;
  demand = demand_sheet words words.zones;
}
