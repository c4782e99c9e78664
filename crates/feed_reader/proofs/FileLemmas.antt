-- What is read of the bytes of stop_times.txt, as what is read of the files, and the trips that are kept by flags.
use Rattle.std.proofs.Common.{◌≡◌, ℕ, ◌+◌, Bool, List, ◌++◌, Some, length, map, ap, ◌∙◌, subst}
use Rattle.std.specs.Prelude.{All, count_by, not}
use Rattle.std.proofs.lemmas.List.{length-map}
use Rattle.gtfs_rows.specs.Faults.{sheet_faults}
use Rattle.gtfs_rows.specs.declared.timetable.Band.{Band}
use Rattle.feed_reader.specs.declared.fault.FeedFault.{FeedFault}
use Rattle.feed_reader.specs.declared.fault.FeedFault.TheVariants as fault
use Rattle.feed_reader.specs.declared.timetable.Trip.{Trip}
use Rattle.feed_reader.specs.BandRows.{IsBandWithin}
use Rattle.feed_reader.specs.CallFiles.{call_file_faults, is_kept_id, kept_lists, rows_in}
use Rattle.feed_reader.specs.Calls.{calls_of, is_aside, trip_call_faults}
use Rattle.feed_reader.specs.Columns.{stop_time_columns, stop_times_file}
use Rattle.feed_reader.specs.Faults.{Fields}
use Rattle.feed_reader.specs.Feed.{FilesData, band_rows, calls_in, kept_rows, routes_in, services_in, stop_rows, trip_ids, trip_rows}
use Rattle.feed_reader.specs.FileFaults.{of_calls}
use Rattle.feed_reader.specs.Frequencies.{bands_of}
use Rattle.feed_reader.specs.Kept.{kept_of}
use Rattle.feed_reader.specs.Stops.{stop_id, stop_ids}
use Rattle.feed_reader.specs.StopTimes.{calls_faults, row_calls}
use Rattle.feed_reader.specs.TripRows.{IsTripWithin}
use Rattle.feed_reader.specs.Trips.{trip_id, trip_of}
use Rattle.feed_reader.proofs.JoinLemmas.{flags-keep, flat-twice, kept-all, kept-twice, left-out, map-twice}

-- whether the trip of a row is not set aside
abbrev pub keeps : FilesData → Fields → Bool
keeps files trip = not (is_aside (calls_in files trip))

pub kept-rows : (files : FilesData) (bytes : List ℕ) (stops : List Fields) (trips : List (List ℕ)) → stops ≡ stop_rows files → trips ≡ trip_ids files → files.stop_times ≡ Some bytes
    → map (is_kept_id stops (rows_in bytes)) trips ≡ map (keeps files) (trip_rows files)
kept-rows files bytes stops trips s t there = rw (s, t, there) (map-twice (is_kept_id (stop_rows files) (rows_in bytes)) trip_id (trip_rows files))

pub lists-rows : (files : FilesData) (bytes : List ℕ) (stops : List Fields) (trips : List (List ℕ)) → stops ≡ stop_rows files → trips ≡ trip_ids files → files.stop_times ≡ Some bytes
    → kept_lists stops (rows_in bytes) trips ≡ map (λ trip. calls_of (calls_in files trip)) (kept_rows files)
lists-rows files bytes stops trips s t there =
    rw (s, t, there) (kept-twice (λ id. calls_of (row_calls (stop_ids (stop_rows files)) (rows_in bytes) id)) (is_kept_id (stop_rows files) (rows_in bytes)) trip_id (trip_rows files))

pub faults-rows : (files : FilesData) (bytes : List ℕ) (stops : List Fields) (trips : List (List ℕ)) → stops ≡ stop_rows files → trips ≡ trip_ids files → files.stop_times ≡ Some bytes
    → map fault.Row (sheet_faults stop_times_file bytes stop_time_columns) ++ call_file_faults stops trips (rows_in bytes) ≡ of_calls files
faults-rows files bytes stops trips s t there =
    rw (s, t, there) (ap (λ (rest : List FeedFault). map fault.Row (sheet_faults stop_times_file bytes stop_time_columns) ++ (calls_faults (trip_ids files) (map stop_id (stop_rows files)) (rows_in bytes) ++ rest))
    (flat-twice (λ id. trip_call_faults (rows_in bytes) (row_calls (stop_ids (stop_rows files)) (rows_in bytes) id)) trip_id (trip_rows files)))

-- the trips, the ids and the bands that flags keep
pub trips-kept : (files : FilesData) (all left : List Trip) (kept : List Bool) → all ≡ map (trip_of (routes_in files) (services_in files)) (trip_rows files) → kept ≡ map (keeps files) (trip_rows files) → left ≡ kept_of all kept
    → left ≡ map (trip_of (routes_in files) (services_in files)) (kept_rows files)
trips-kept files all left kept a k is = is ∙ rw (a, k) (flags-keep (trip_of (routes_in files) (services_in files)) (keeps files) (trip_rows files))

pub ids-kept : (files : FilesData) (ids : List (List ℕ)) (kept : List Bool) → ids ≡ trip_ids files → kept ≡ map (keeps files) (trip_rows files) → kept_of ids kept ≡ map trip_id (kept_rows files)
ids-kept files ids kept i k = rw (i, k) (flags-keep trip_id (keeps files) (trip_rows files))

pub bands-kept : (files : FilesData) (ids : List (List ℕ)) (kept : List Bool) (bands : List Band) → ids ≡ trip_ids files → kept ≡ map (keeps files) (trip_rows files) → bands ≡ bands_of (kept_of ids kept) (band_rows files)
    → bands ≡ bands_of (map trip_id (kept_rows files)) (band_rows files)
bands-kept files ids kept bands i k is = is ∙ ap (λ (trips : List (List ℕ)). bands_of trips (band_rows files)) (ids-kept files ids kept i k)

pub bands-within-kept : (files : FilesData) (ids : List (List ℕ)) (kept : List Bool) (bands : List Band) → ids ≡ trip_ids files → kept ≡ map (keeps files) (trip_rows files) → All (IsBandWithin (length (kept_of ids kept))) bands
    → All (IsBandWithin (length (kept_rows files))) bands
bands-within-kept files ids kept bands i k all =
    let size : length (kept_of ids kept) ≡ length (kept_rows files) = ap length (ids-kept files ids kept i k) ∙ length-map (kept_rows files) trip_id in
    subst (λ (n : ℕ). All (IsBandWithin n) bands) size all

-- there is a flag for each trip
pub flags-of : (files : FilesData) (kept : List Bool) → kept ≡ map (keeps files) (trip_rows files) → length kept ≡ length (trip_rows files)
flags-of files kept k = ap length k ∙ length-map (trip_rows files) (keeps files)

pub ids-of : (files : FilesData) (ids : List (List ℕ)) → ids ≡ trip_ids files → length ids ≡ length (trip_rows files)
ids-of files ids i = ap length i ∙ length-map (trip_rows files) trip_id

pub trips-of : (files : FilesData) (rows : List Fields) (trips : List Trip) → trips ≡ map (trip_of (routes_in files) (services_in files)) rows → length trips ≡ length rows
trips-of files rows trips t = ap length t ∙ length-map rows (trip_of (routes_in files) (services_in files))

-- each trip is kept or set aside
pub all-counted : (files : FilesData) → length (kept_rows files) + count_by (λ trip. is_aside (calls_in files trip)) (trip_rows files) ≡ length (trip_rows files)
all-counted files = left-out (λ trip. is_aside (calls_in files trip)) (trip_rows files)

pub kept-within : (files : FilesData) (all left : List Trip) (routes services : ℕ) → all ≡ map (trip_of (routes_in files) (services_in files)) (trip_rows files) → left ≡ map (trip_of (routes_in files) (services_in files)) (kept_rows files)
    → All (IsTripWithin routes services) all → All (IsTripWithin routes services) left
kept-within files all left routes services a l within =
    rw l (kept-all (IsTripWithin routes services) (trip_of (routes_in files) (services_in files)) (keeps files) (trip_rows files) (rw a at within))
