-- The sheet of records, of which the first is the header.
use Rattle.std.proofs.Common.{◌≡◌, ℕ, List, [], ◌∷◌, ◌++◌, Option, length, map, refl, ap, eq-eqb}
use Rattle.std.specs.Prelude.{flat_map}
use Rattle.std.proofs.lemmas.List.{length-map}
use Rattle.gtfs_rows.specs.declared.row_fault.RowFault.{RowFault}
use Rattle.gtfs_rows.specs.declared.wanted.Column.{Column}
use Rattle.gtfs_rows.specs.Faults.{IsFirstFault, column_faults, record_faults, width_faults}
use Rattle.gtfs_rows.specs.Records.{trimmed}
use Rattle.gtfs_rows.specs.Sheets.{field_in, place_of, row_of, sheet_of_records}
use Rattle.gtfs_rows.proofs.FaultLemmas.{is-first-behind, is-first-front}

-- the faults of records are those of the columns, and then those of the rows
record-faults : (file : List ℕ) (wanted : List Column) (left left2 : List (List (List ℕ))) (r header : List (List ℕ)) → left ≡ r ∷ left2 → header ≡ map trimmed r
    → record_faults file wanted (map (map trimmed) left) ≡ flat_map (column_faults file header) wanted ++ width_faults file (length header) 2 (map (map trimmed) left2)
record-faults file wanted left left2 r header next is =
    let same = eq-eqb (length (map trimmed r)) (length (map trimmed r)) refl in
    rw (next, is, same) refl

pub columns-refused : (file : List ℕ) (wanted : List Column) (left left2 : List (List (List ℕ))) (r header : List (List ℕ)) (e : RowFault) → left ≡ r ∷ left2 → header ≡ map trimmed r
    → IsFirstFault (flat_map (column_faults file header) wanted) e → IsFirstFault (record_faults file wanted (map (map trimmed) left)) e
columns-refused file wanted left left2 r header e next is first = rw (record-faults file wanted left left2 r header next is) (is-first-front _ _ e first)

pub rows-refused : (file : List ℕ) (wanted : List Column) (left left2 : List (List (List ℕ))) (r header : List (List ℕ)) (e : RowFault) → left ≡ r ∷ left2 → header ≡ map trimmed r
    → flat_map (column_faults file header) wanted ≡ [] → IsFirstFault (width_faults file (length header) 2 (map (map trimmed) left2)) e → IsFirstFault (record_faults file wanted (map (map trimmed) left)) e
rows-refused file wanted left left2 r header e next is none first = rw (record-faults file wanted left left2 r header next is) (is-first-behind _ _ e none first)

-- the fields at the places of the columns are those of the columns
fields-shown : (header : List (List ℕ)) (wanted : List Column) (fields : List (List ℕ)) → map (field_in fields) (map (λ column. place_of header column.name) wanted) ≡ row_of header wanted fields
fields-shown header [] fields = refl
fields-shown header (c ∷ cs) fields = ap (λ (fs : List (List ℕ)). field_in fields (place_of header c.name) ∷ fs) (fields-shown header cs fields)

rows-shown : (header : List (List ℕ)) (wanted : List Column) (rows : List (List (List ℕ))) → map (λ fields. map (field_in fields) (map (λ column. place_of header column.name) wanted)) rows ≡ map (row_of header wanted) rows
rows-shown header wanted [] = refl
rows-shown header wanted (r ∷ rs) = rw (fields-shown header wanted r, rows-shown header wanted rs) refl

pub sheet-shown : (wanted : List Column) (left left2 : List (List (List ℕ))) (r header : List (List ℕ)) (places : List (Option ℕ)) → left ≡ r ∷ left2 → header ≡ map trimmed r
    → places ≡ map (λ column. place_of header column.name) wanted
    → record { width = length places; rows = map (λ fields. map (field_in fields) places) (map (map trimmed) left2) } ≡ sheet_of_records wanted (map (map trimmed) left)
sheet-shown wanted left left2 r header places next is at =
    let rows = rows-shown header wanted (map (map trimmed) left2) in
    let names = length-map wanted (λ (column : Column). place_of header column.name) in
    rw (at, rows, names, next, is) refl
