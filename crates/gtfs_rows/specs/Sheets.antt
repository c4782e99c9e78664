-- A sheet: the fields of the wanted columns, in each record after the first. Here: docs/FORMATS.md; the
-- names of columns in the first record are those of the GTFS Schedule reference.
use Rattle.std.specs.Prelude.{ℕ, List, [], Option, Some, None, length, map, drop, slice_index_or}
use Rattle.std.specs.List.{position_from}
use Rattle.std.specs.Str.{bytes_eq}
use Rattle.gtfs_rows.specs.declared.wanted.Column.{Column}
use Rattle.gtfs_rows.specs.Records.{header_of, records_of}

-- what a contract sees of a sheet: how many columns are wanted, and for each row their fields
pub record SheetData : Type 0 where
  pub width : ℕ
  pub rows : List (List (List ℕ))

-- the place of a name in the first record
abbrev pub place_of : List (List ℕ) → List ℕ → Option ℕ
place_of header name = position_from (bytes_eq name) 0 header

-- the field of a record at a place, empty where there is no place
abbrev pub field_in : List (List ℕ) → Option ℕ → List ℕ
field_in fields None = []
field_in fields (Some place) = slice_index_or fields place []

-- the fields of a record in the wanted columns
abbrev pub row_of : List (List ℕ) → List Column → List (List ℕ) → List (List ℕ)
row_of header wanted fields = map (λ column. field_in fields (place_of header column.name)) wanted

-- the sheet of all records of a file
abbrev pub sheet_of_records : List Column → List (List (List ℕ)) → SheetData
sheet_of_records wanted all = record { width = length wanted; rows = map (row_of (header_of all) wanted) (drop 1 all) }

-- the sheet of the bytes of a file
abbrev pub sheet_of : List ℕ → List Column → SheetData
sheet_of bytes wanted = sheet_of_records wanted (records_of bytes)

-- the field of a row in a wanted column
abbrev pub cell : SheetData → ℕ → ℕ → List ℕ
cell sheet row column = slice_index_or (slice_index_or sheet.rows row []) column []
