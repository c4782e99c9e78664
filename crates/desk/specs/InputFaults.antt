-- What may be wrong with the files that `assign` reads. Here: docs/FORMATS.md.
use Rattle.std.specs.Prelude.{◌≡◌, ◌+◌, ◌++◌, ◌<◌, ℕ, List, [], ◌∷◌, Option, Some, None, IfSome, flat_map, length, map, nat_lt, slice_get, if◌then◌else◌}
use Rattle.std.specs.List.{Contains}
use Rattle.std.specs.Option.{option_to_list}
use Rattle.definitions.specs.declared.limits.TheConstants.{FILE_LIMIT}
use Rattle.definitions.specs.Causes.{Rose}
use Rattle.desk_io.specs.Told.{file_at}
use Rattle.feed_reader.specs.declared.fetch_fault.TheConstants.{FILES_LIMIT}
use Rattle.feed_reader.specs.declared.fetch_fault.FetchFault.{FetchFault}
use Rattle.feed_reader.specs.declared.fetch_fault.FetchFault.TheVariants as fetch
use Rattle.feed_reader.specs.declared.fetch_fault.FetchLimit.{FetchLimit}
use Rattle.feed_reader.specs.declared.fetch_fault.FetchLimit.TheVariants as fetch_limit
use Rattle.feed_reader.specs.Fetched.{Told, feed_files, range_faults}
use Rattle.desk.specs.declared.command.AssignWords.{AssignWords}
use Rattle.desk.specs.declared.status.Limit.{Limit}
use Rattle.desk.specs.declared.status.Limit.TheVariants as limit
use Rattle.desk.specs.declared.status.UsageFault.TheVariants.{NoFile}
use Rattle.desk.specs.declared.status.Cause.{Cause}
use Rattle.desk.specs.declared.status.Cause.TheVariants.{Usage, Range, ReadFault, NoMemory}
use Rattle.desk.specs.Read.{Files, Reads}

-- a limit of the files of a feed as one of the run
abbrev pub limit_of_files : FetchLimit → Limit
limit_of_files fetch_limit.File = limit.File
limit_of_files fetch_limit.Files = limit.Files

-- a fault of the files of a feed as a cause
abbrev pub from_fetch : FetchFault → Cause
from_fetch fetch.ReadFault = ReadFault
from_fetch (fetch.Range name count) = Range (limit_of_files name) count
from_fetch fetch.NoMemory = NoMemory

-- the limits that the files of the feed below a path pass
abbrev pub feed_file_faults : Told → List ℕ → List Cause
feed_file_faults told folder = map from_fetch (range_faults FILE_LIMIT FILES_LIMIT (feed_files told folder))

-- the fault of a path, by what is found there: no file, or one that is longer than a file may be
abbrev pub found_faults : List ℕ → Option (List ℕ) → List Cause
found_faults path None = Usage (NoFile path) ∷ []
found_faults path (Some bytes) = if nat_lt FILE_LIMIT (length bytes) then Range limit.File (FILE_LIMIT + 1) ∷ [] else []

-- the fault of a path in a folder
abbrev pub path_faults : Told → List ℕ → List Cause
path_faults told path = found_faults path (file_at told path)

-- the paths of the tables that the words name, in the order in which they are read
abbrev pub table_paths : AssignWords → List (List ℕ)
table_paths words = words.zones ∷ words.demand ∷ option_to_list words.walks ++ option_to_list words.scenario

-- the faults of all files that the words name, in the order in which they are read
abbrev pub input_faults : Told → AssignWords → List Cause
input_faults told words = feed_file_faults told words.folder ++ flat_map (path_faults told) (table_paths words)

-- a limit of files: that of one, or that of all files of a feed
abbrev pub IsLimitOfFiles : Limit → Type 0
IsLimitOfFiles limit.File = Unit {0}
IsLimitOfFiles limit.Files = Unit {0}
IsLimitOfFiles name = ⊥

-- the cause is the first of these faults of what the folder tells, a limit is one of files, and a file that is not there has one of these paths
abbrev pub IsFirstCause : Files → (Told → List Cause) → List (List ℕ) → Cause → Type 0
IsFirstCause files faults paths (Usage (NoFile path)) = Contains paths path × IfSome files (λ told. slice_get (faults told) 0 ≡ Some (Usage (NoFile path)))
IsFirstCause files faults paths (Range name count) = IsLimitOfFiles name × IfSome files (λ told. slice_get (faults told) 0 ≡ Some (Range name count))
IsFirstCause files faults paths cause = ⊥

-- the same, where a failed call, which the folder counted, and want of memory may come in its place
abbrev pub EndsReading : Reads → (Told → List Cause) → List (List ℕ) → Cause → Type 0
EndsReading reads faults paths ReadFault = Rose reads.old_count reads.new_count
EndsReading reads faults paths NoMemory = Unit {0}
EndsReading reads faults paths cause = IsFirstCause reads.files faults paths cause

-- the cause is the first fault of the files that the words name
abbrev pub IsInputFault : Files → AssignWords → Cause → Type 0
IsInputFault files words cause = IsFirstCause files (λ told. input_faults told words) (table_paths words) cause

-- why the files that the words name were not read
abbrev pub HasInputFault : Reads → AssignWords → Cause → Type 0
HasInputFault reads words cause = EndsReading reads (λ told. input_faults told words) (table_paths words) cause

-- why the file at a path was not read
abbrev pub IsUnread : Reads → List ℕ → Cause → Type 0
IsUnread reads path (Usage (NoFile name)) = (name ≡ path) × IfSome reads.files (λ told. file_at told path ≡ None)
IsUnread reads path (Range name count) =
    (name ≡ limit.File) × (count ≡ FILE_LIMIT + 1) × IfSome reads.files (λ told. (bytes : List ℕ) × (file_at told path ≡ Some bytes) × (FILE_LIMIT < length bytes))
IsUnread reads path ReadFault = Rose reads.old_count reads.new_count
IsUnread reads path NoMemory = Unit {0}
IsUnread reads path cause = ⊥
