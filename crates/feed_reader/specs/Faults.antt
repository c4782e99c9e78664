-- Faults of the rows of a file, in the order in which the first of them is answered. Here: docs/FORMATS.md.
use Rattle.std.specs.Prelude.{◌≡◌, ◌⊎◌, ◌+◌, ◌==◌, ℕ, Bool, List, [], ◌∷◌, Option, Some, length, if◌then◌else◌, flat_map, slice_get, slice_index_or}
use Rattle.std.specs.List.{range_with_len}
use Rattle.gtfs_rows.specs.Fields.{whole_of}
use Rattle.gtfs_rows.specs.declared.place.Place.{Place}
use Rattle.gtfs_rows.specs.declared.row_fault.RowFault.TheVariants as row
use Rattle.feed_reader.specs.declared.fault.FeedFault.{FeedFault}
use Rattle.feed_reader.specs.declared.fault.FeedFault.TheVariants as fault

-- a row as the fields of its wanted columns
abbrev pub Fields : Type 0
Fields = List (List ℕ)

-- the field of a row in a wanted column
abbrev pub field : Fields → ℕ → List ℕ
field fields column = slice_index_or fields column []

-- whether a field is empty
abbrev pub is_empty : List ℕ → Bool
is_empty bytes = length bytes == 0

-- the number that a field writes, and this one where it is empty
abbrev pub whole_or : ℕ → List ℕ → Option ℕ
whole_or missing bytes = if is_empty bytes then Some missing else whole_of bytes

-- the row of this number, counted from 0 behind the header
abbrev pub row_at : List Fields → ℕ → Fields
row_at rows number = slice_index_or rows number []

-- the fault, where the test holds
abbrev pub fault_if : Bool → FeedFault → List FeedFault
fault_if test found = if test then found ∷ [] else []

-- the place of a field in the row of this number; the header is row 1 of the file
abbrev pub place_in : List ℕ → ℕ → List ℕ → List ℕ → Place
place_in file number column bytes = record { file = file; row = number + 2; column = column; field = bytes }

-- the field at a place is none that its reader accepts
abbrev pub bad_field : Place → FeedFault
bad_field place = fault.Row (row.BadField place)

-- the faults of all rows, where those of each are given by its number
abbrev pub faults_of_rows : (ℕ → List FeedFault) → List Fields → List FeedFault
faults_of_rows faults rows = flat_map faults (range_with_len 0 (length rows))

-- the answer is the first of these faults; want of memory may come in its place
abbrev pub IsFirstFault : List FeedFault → FeedFault → Type 0
IsFirstFault faults answer = (answer ≡ fault.NoMemory) ⊎ (slice_get faults 0 ≡ Some answer)
