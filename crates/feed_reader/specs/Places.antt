-- The files of a feed by their places in the reading order, counted from 0. Here: docs/FORMATS.md.
use Rattle.std.specs.Prelude.{◌≤◌, ℕ, List, [], ◌∷◌, Option, Some, None, length, sum_by, slice_index_or, if◌then◌else◌}
use Rattle.std.specs.Option.{option_map_or}
use Rattle.std.specs.Str.{bytes_eq}
use Rattle.definitions.specs.declared.limits.TheConstants.{FILE_LIMIT}
use Rattle.feed_reader.specs.Columns.{calendar_dates_file, calendar_file, file_names, frequencies_file, routes_file, stop_times_file, stops_file, transfers_file, trips_file}
use Rattle.feed_reader.specs.Feed.{FilesData}

-- the files with these bodies
abbrev pub files_with : Option (List ℕ) → Option (List ℕ) → Option (List ℕ) → Option (List ℕ) → Option (List ℕ) → Option (List ℕ) → Option (List ℕ) → Option (List ℕ)
    → FilesData
files_with stops routes calendar calendar_dates trips stop_times frequencies transfers = record {
  stops = stops;
  routes = routes;
  calendar = calendar;
  calendar_dates = calendar_dates;
  trips = trips;
  stop_times = stop_times;
  frequencies = frequencies;
  transfers = transfers;
}

-- no files
abbrev pub no_files : FilesData
no_files = files_with None None None None None None None None

-- the name of the file at a place
abbrev pub name_at : ℕ → List ℕ
name_at place = slice_index_or file_names place []

-- the body, where it is put at the place of the file of this name; else what was there
abbrev pub or_body : ℕ → List ℕ → List ℕ → Option (List ℕ) → Option (List ℕ)
or_body place body name there = if bytes_eq (name_at place) name then Some body else there

-- the files, with this body of the file at a place
abbrev pub with_file : FilesData → ℕ → List ℕ → FilesData
with_file files place body = record {
  stops = or_body place body stops_file files.stops;
  routes = or_body place body routes_file files.routes;
  calendar = or_body place body calendar_file files.calendar;
  calendar_dates = or_body place body calendar_dates_file files.calendar_dates;
  trips = or_body place body trips_file files.trips;
  stop_times = or_body place body stop_times_file files.stop_times;
  frequencies = or_body place body frequencies_file files.frequencies;
  transfers = or_body place body transfers_file files.transfers;
}

-- the bodies in reading order
abbrev pub bodies_of : FilesData → List (Option (List ℕ))
bodies_of files = files.stops ∷ files.routes ∷ files.calendar ∷ files.calendar_dates ∷ files.trips ∷ files.stop_times ∷ files.frequencies ∷ files.transfers ∷ []

-- the body of the file at a place, None where there is no file
abbrev pub file_at : FilesData → ℕ → Option (List ℕ)
file_at files place = slice_index_or (bodies_of files) place None

-- how long a body is, 0 where there is none
abbrev pub length_of : Option (List ℕ) → ℕ
length_of body = option_map_or length body 0

-- how many bytes the files have in all
abbrev pub bytes_in : FilesData → ℕ
bytes_in files = sum_by length_of (bodies_of files)

-- no file is longer than its limit
pub record AreShort (files : FilesData) : Type 0 where
  pub stops : length_of files.stops ≤ FILE_LIMIT
  pub routes : length_of files.routes ≤ FILE_LIMIT
  pub calendar : length_of files.calendar ≤ FILE_LIMIT
  pub calendar_dates : length_of files.calendar_dates ≤ FILE_LIMIT
  pub trips : length_of files.trips ≤ FILE_LIMIT
  pub stop_times : length_of files.stop_times ≤ FILE_LIMIT
  pub frequencies : length_of files.frequencies ≤ FILE_LIMIT
  pub transfers : length_of files.transfers ≤ FILE_LIMIT
