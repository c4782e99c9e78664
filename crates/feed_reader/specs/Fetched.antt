-- The files of a feed that a folder has. What is said of files holds where the folder tells them. Here: docs/FORMATS.md.
use Rattle.std.specs.Prelude.{◌≡◌, ◌+◌, ◌++◌, ℕ, Bool, List, [], ◌∷◌, Option, Some, IfSome, codes, flat_map, nat_lt, slice_get, sum_by, take, if◌then◌else◌}
use Rattle.std.specs.List.{range_with_len}
use Rattle.definitions.specs.Causes.{Rose}
use Rattle.desk_io.specs.Told as folder
use Rattle.feed_reader.specs.declared.fetch_fault.FetchFault.{FetchFault}
use Rattle.feed_reader.specs.declared.fetch_fault.FetchFault.TheVariants as fault
use Rattle.feed_reader.specs.declared.fetch_fault.FetchLimit.TheVariants as limit
use Rattle.feed_reader.specs.Columns.{calendar_dates_file, calendar_file, frequencies_file, routes_file, stop_times_file, stops_file, transfers_file, trips_file}
use Rattle.feed_reader.specs.Feed.{FilesData}
use Rattle.feed_reader.specs.Places.{bodies_of, file_at, length_of}

-- the files that a folder tells, each a path and its bytes
abbrev pub Told : Type 0
Told = List (List ℕ × List ℕ)

-- the path of the file of a name
abbrev pub path_of : List ℕ → List ℕ → List ℕ
path_of root name = root ++ codes "/" ++ name

-- the body of the file of a name, None where the folder has none
abbrev pub body_of : Told → List ℕ → List ℕ → Option (List ℕ)
body_of told root name = folder.file_at told (path_of root name)

-- the files of a feed that a folder has below a path
abbrev pub feed_files : Told → List ℕ → FilesData
feed_files told root = record {
  stops = body_of told root stops_file;
  routes = body_of told root routes_file;
  calendar = body_of told root calendar_file;
  calendar_dates = body_of told root calendar_dates_file;
  trips = body_of told root trips_file;
  stop_times = body_of told root stop_times_file;
  frequencies = body_of told root frequencies_file;
  transfers = body_of told root transfers_file;
}

-- the bytes of the files up to a place, in all
abbrev pub bytes_up_to : FilesData → ℕ → ℕ
bytes_up_to files place = sum_by length_of (take (place + 1) (bodies_of files))

-- the fault, where the test holds
abbrev pub fault_if : Bool → FetchFault → List FetchFault
fault_if test found = if test then found ∷ [] else []

-- the fault of a body that is longer than the limit of a file; no more is read of it than one byte past that
abbrev pub file_faults : ℕ → Option (List ℕ) → List FetchFault
file_faults most body = fault_if (nat_lt most (length_of body)) (fault.Range limit.File (most + 1))

-- the fault of files whose bytes, so many in all, pass the limit of all files
abbrev pub sum_faults : ℕ → ℕ → List FetchFault
sum_faults most sum = fault_if (nat_lt most sum) (fault.Range limit.Files sum)

-- the limits that are passed at a place: that of the file there, and that of all files up to it
abbrev pub limit_faults : ℕ → ℕ → FilesData → ℕ → List FetchFault
limit_faults file_most files_most files place = file_faults file_most (file_at files place) ++ sum_faults files_most (bytes_up_to files place)

-- the limits that are passed, in reading order
abbrev pub range_faults : ℕ → ℕ → FilesData → List FetchFault
range_faults file_most files_most files = flat_map (limit_faults file_most files_most files) (range_with_len 0 8)

-- the answer is the first of these faults of what the folder tells; a failed call, which the folder counted, and want of memory may come in its place
abbrev pub IsFirstFault : Option Told → (Told → List FetchFault) → ℕ → ℕ → FetchFault → Type 0
IsFirstFault files faults old_count new_count fault.ReadFault = Rose old_count new_count
IsFirstFault files faults old_count new_count fault.NoMemory = Unit {0}
IsFirstFault files faults old_count new_count (fault.Range limit count) = IfSome files (λ told. slice_get (faults told) 0 ≡ Some (fault.Range limit count))
