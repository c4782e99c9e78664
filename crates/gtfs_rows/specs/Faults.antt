-- All faults of a file as a sheet, in the order in which the first of them is answered. Here: docs/FORMATS.md.
use Rattle.std.specs.Prelude.{◌≡◌, ◌⊎◌, ◌&&◌, ◌==◌, ◌++◌, ℕ, Bool, true, false, not, List, [], ◌∷◌, Some, length, nat_lt, if◌then◌else◌, count_by, flat_map, slice_get}
use Rattle.std.specs.List.{enumerate_from}
use Rattle.std.specs.Str.{bytes_eq, is_utf8}
use Rattle.gtfs_rows.specs.declared.place.Place.{Place}
use Rattle.gtfs_rows.specs.declared.row_fault.RowFault.{RowFault}
use Rattle.gtfs_rows.specs.declared.row_fault.RowFault.TheVariants as fault
use Rattle.gtfs_rows.specs.declared.wanted.Column.{Column}
use Rattle.gtfs_rows.specs.Records.{header_of, records_of, unmarked}

-- the fault, where the test holds
abbrev pub fault_if : Bool → RowFault → List RowFault
fault_if test fault = if test then fault ∷ [] else []

-- the place of a file as a whole
abbrev pub file_place : List ℕ → Place
file_place file = record { file = file; row = 0; column = []; field = [] }

-- the place of a column, at the first record
abbrev pub column_place : List ℕ → List ℕ → Place
column_place file name = record { file = file; row = 1; column = name; field = [] }

-- the place of a record, counted from 1
abbrev pub row_place : List ℕ → ℕ → Place
row_place file row = record { file = file; row = row; column = []; field = [] }

-- how often a name stands in the first record
abbrev pub times : List ℕ → List (List ℕ) → ℕ
times name header = count_by (bytes_eq name) header

-- the faults of a wanted column: its name stands twice, or has to be there and is not
abbrev pub column_faults : List ℕ → List (List ℕ) → Column → List RowFault
column_faults file header column =
    fault_if (nat_lt 1 (times column.name header)) (fault.DoubleColumn (column_place file column.name))
    ++ fault_if (column.required && (times column.name header == 0)) (fault.MissingColumn (column_place file column.name))

-- the fault of a record beside its row: it has not as many fields as the first
abbrev pub width_fault : List ℕ → ℕ → ℕ × List (List ℕ) → List RowFault
width_fault file width numbered = fault_if (not (length numbered.1 == width)) (fault.RowWidth (row_place file numbered.0))

-- the faults of records from a row on
abbrev pub width_faults : List ℕ → ℕ → ℕ → List (List (List ℕ)) → List RowFault
width_faults file width row rest = flat_map (width_fault file width) (enumerate_from row rest)

-- whether there is no record
abbrev pub has_no_record : List (List (List ℕ)) → Bool
has_no_record [] = true
has_no_record (first ∷ rest) = false

-- the faults of all records: there is none, then those of the wanted columns, each in turn, then those of the records
abbrev pub record_faults : List ℕ → List Column → List (List (List ℕ)) → List RowFault
record_faults file wanted all =
    fault_if (has_no_record all) (fault.NoHeader (file_place file))
    ++ flat_map (column_faults file (header_of all)) wanted
    ++ width_faults file (length (header_of all)) 1 all

-- the faults of a file: it is no text, then those of its records
abbrev pub sheet_faults : List ℕ → List ℕ → List Column → List RowFault
sheet_faults file bytes wanted =
    fault_if (not (is_utf8 (unmarked bytes))) (fault.NotUtf8 (file_place file)) ++ record_faults file wanted (records_of bytes)

-- the answer is the first of these faults; want of memory may come in its place
abbrev pub IsFirstFault : List RowFault → RowFault → Type 0
IsFirstFault faults answer = (answer ≡ fault.NoMemory) ⊎ (slice_get faults 0 ≡ Some answer)
