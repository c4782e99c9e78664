-- What each refusal of a sheet says of the file. Here: docs/FORMATS.md.
use Rattle.std.specs.Prelude.{◌≡◌, ◌≢◌, ◌<◌, ◌≤◌, ◌+◌, ℕ, true, List, [], Some, length, IsUtf8, slice_get, slice_index_or}
use Rattle.gtfs_rows.specs.declared.place.Place.{Place}
use Rattle.gtfs_rows.specs.declared.wanted.Column.{Column}
use Rattle.gtfs_rows.specs.Faults.{column_place, file_place, row_place, times}
use Rattle.gtfs_rows.specs.Records.{header_of, records_of, unmarked}

-- a wanted column without a fault: its name stands at most once in the header, and does where it has to
pub record IsFine (header : List (List ℕ)) (column : Column) : Type 0 where
  pub once : times column.name header ≤ 1
  pub there : column.required ≡ true → times column.name header ≢ 0

-- the first so many wanted columns are without a fault
abbrev pub AreFine : List (List ℕ) → List Column → ℕ → Type 0
AreFine header wanted count = (k : ℕ) (column : Column) → k < count → slice_get wanted k ≡ Some column → IsFine header column

-- the bytes are no UTF-8
pub record IsNotText (file bytes : List ℕ) (place : Place) : Type 0 where
  pub no_text : ¬ (IsUtf8 (unmarked bytes))
  pub at : place ≡ file_place file

-- the bytes are UTF-8 without a record
pub record HasNoRecord (file bytes : List ℕ) (place : Place) : Type 0 where
  pub text : IsUtf8 (unmarked bytes)
  pub none : records_of bytes ≡ []
  pub at : place ≡ file_place file

-- the bytes are UTF-8 with a header in which a wanted column stands twice, and those before it are without a fault
pub record HasDoubleColumn (file bytes : List ℕ) (wanted : List Column) (place : Place) : Type 0 where
  pub text : IsUtf8 (unmarked bytes)
  pub some : records_of bytes ≢ []
  pub number : ℕ
  pub column : Column
  pub found : slice_get wanted number ≡ Some column
  pub twice : 1 < times column.name (header_of (records_of bytes))
  pub before : AreFine (header_of (records_of bytes)) wanted number
  pub at : place ≡ column_place file column.name

-- the bytes are UTF-8 with a header in which a required column is not, and those before it are without a fault
pub record HasMissingColumn (file bytes : List ℕ) (wanted : List Column) (place : Place) : Type 0 where
  pub text : IsUtf8 (unmarked bytes)
  pub some : records_of bytes ≢ []
  pub number : ℕ
  pub column : Column
  pub found : slice_get wanted number ≡ Some column
  pub required : column.required ≡ true
  pub absent : times column.name (header_of (records_of bytes)) ≡ 0
  pub before : AreFine (header_of (records_of bytes)) wanted number
  pub at : place ≡ column_place file column.name

-- the bytes are UTF-8 with a record of another number of fields than the header, those before it have as many, and all
-- columns are without a fault; the first record is number 0 here and row 1 in the place
pub record HasUnevenRow (file bytes : List ℕ) (wanted : List Column) (place : Place) : Type 0 where
  pub text : IsUtf8 (unmarked bytes)
  pub number : ℕ
  pub there : number < length (records_of bytes)
  pub uneven : length (slice_index_or (records_of bytes) number []) ≢ length (header_of (records_of bytes))
  pub before : (k : ℕ) → k < number → length (slice_index_or (records_of bytes) k []) ≡ length (header_of (records_of bytes))
  pub columns : AreFine (header_of (records_of bytes)) wanted (length wanted)
  pub at : place ≡ row_place file (number + 1)
