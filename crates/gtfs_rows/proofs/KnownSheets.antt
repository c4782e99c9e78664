-- Sheets that were worked out by hand, which the definitions give.
use Rattle.std.proofs.Common.{◌≡◌, [], ◌∷◌, List, Some, refl, true, false}
use Rattle.std.specs.Prelude.{codes, slice_get}
use Rattle.csv.specs.Machine.{next_record}
use Rattle.csv.specs.Reading.{records_from, strip_bom}
use Rattle.gtfs_rows.specs.declared.row_fault.RowFault.TheVariants as fault
use Rattle.gtfs_rows.specs.declared.wanted.Column.{Column}
use Rattle.gtfs_rows.specs.Faults.{column_place, file_place, record_faults, row_place}
use Rattle.gtfs_rows.specs.Records.{drop_blanks, records_of, trimmed, unmarked}
use Rattle.gtfs_rows.specs.Sheets.{sheet_of}

-- the column a, which a sheet has to have, and the column b
abbrev a_and_b : List Column
a_and_b = record { name = codes "a"; required = true } ∷ record { name = codes "b"; required = false } ∷ []

blanks-at-both-ends : trimmed (codes " \ta b\t ") ≡ codes "a b"
unfolding drop_blanks
blanks-at-both-ends = refl

two-marks : unmarked (0xEF ∷ 0xBB ∷ 0xBF ∷ 0xEF ∷ 0xBB ∷ 0xBF ∷ codes "a") ≡ 0xEF ∷ 0xBB ∷ 0xBF ∷ codes "a"
two-marks = refl

-- a quoted field, blanks, CR LF and an empty line
records-of-a-file : records_of (codes "b, a\r\n\r\n\"2\", 1 \r\n") ≡ (codes "b" ∷ codes "a" ∷ []) ∷ (codes "2" ∷ codes "1" ∷ []) ∷ []
unfolding drop_blanks next_record records_from strip_bom
records-of-a-file = refl

sheet-of-a-file : sheet_of (codes "b, a\r\n\r\n\"2\", 1 \r\n") a_and_b ≡ record { width = 2; rows = (codes "1" ∷ codes "2" ∷ []) ∷ [] }
unfolding drop_blanks next_record records_from strip_bom
sheet-of-a-file = refl

no-record : slice_get (record_faults (codes "f") a_and_b []) 0 ≡ Some (fault.NoHeader (file_place (codes "f")))
no-record = refl

-- the column a is tried first
absent-before-double : slice_get (record_faults (codes "f") a_and_b ((codes "b" ∷ codes "b" ∷ []) ∷ [])) 0 ≡ Some (fault.MissingColumn (column_place (codes "f") (codes "a")))
absent-before-double = refl

double-before-width : slice_get (record_faults (codes "f") a_and_b ((codes "a" ∷ codes "b" ∷ codes "b" ∷ []) ∷ (codes "1" ∷ []) ∷ [])) 0 ≡ Some (fault.DoubleColumn (column_place (codes "f") (codes "b")))
double-before-width = refl

-- the second of three rows is the first uneven one
uneven-row : slice_get (record_faults (codes "f") a_and_b ((codes "a" ∷ codes "x" ∷ codes "x" ∷ []) ∷ (codes "1" ∷ [] ∷ [] ∷ []) ∷ (codes "1" ∷ []) ∷ [] ∷ [])) 0 ≡ Some (fault.RowWidth (row_place (codes "f") 3))
uneven-row = refl

-- b need not be there
no-fault : record_faults (codes "f") a_and_b ((codes "x" ∷ codes "a" ∷ codes "x" ∷ []) ∷ []) ≡ []
no-fault = refl
