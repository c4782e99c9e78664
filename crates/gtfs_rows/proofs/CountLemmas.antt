-- How many rows a file may have.
use Rattle.std.proofs.Common.{◌≡◌, ◌≤◌, ◌-◌, ℕ, List, length, map, drop, Result, Ok, Err, inl, inr, arith, subst, sym}
use Rattle.std.specs.Prelude.{IfOk}
use Rattle.std.proofs.lemmas.Bool.{cases_Bool}
use Rattle.std.proofs.lemmas.List.{length-drop, length-map}
use Rattle.csv.specs.Reading.{default_config, records, strip_bom}
use Rattle.gtfs_rows.specs.declared.row_fault.RowFault.{RowFault}
use Rattle.gtfs_rows.specs.declared.wanted.Column.{Column}
use Rattle.gtfs_rows.specs.Records.{has_mark, header_of, records_of, trimmed, unmarked}
use Rattle.gtfs_rows.specs.Sheets.{SheetData, row_of, sheet_of}
use Rattle.gtfs_rows.proofs.RecordLemmas.{all-few}
use Rattle.gtfs_rows.proofs.UnicodeLemmas.{strip-length}

-- no bytes come behind the byte order mark that the file does not have
unmarked-length : (bytes : List ℕ) → length (unmarked bytes) ≤ length bytes
unmarked-length bytes =
    let behind = length-drop 3 bytes in
    elim (cases_Bool (has_mark bytes)) [ inl mark ↦ rw mark (omega arith) | inr none ↦ rw none (omega arith) ]

-- a file has no more rows than bytes
pub rows-few : (bytes : List ℕ) (wanted : List Column) → length (sheet_of bytes wanted).rows ≤ length bytes
rows-few bytes wanted =
    let all = all-few (strip_bom (unmarked bytes)) in
    let short = strip-length (unmarked bytes) in
    let front = unmarked-length bytes in
    let trim : length (records_of bytes) ≡ length (records default_config (strip_bom (unmarked bytes))) = length-map (records default_config (strip_bom (unmarked bytes))) (map trimmed) in
    let behind : length (drop 1 (records_of bytes)) ≡ length (records_of bytes) - 1 = length-drop 1 (records_of bytes) in
    let rows : length (sheet_of bytes wanted).rows ≡ length (drop 1 (records_of bytes)) = length-map (drop 1 (records_of bytes)) (row_of (header_of (records_of bytes)) wanted) in
    omega arith

-- the same of a sheet that was read
pub read-few : (result : Result SheetData RowFault) (bytes : List ℕ) (wanted : List Column) → IfOk result (λ sheet. sheet ≡ sheet_of bytes wanted)
    → IfOk result (λ sheet. length sheet.rows ≤ length bytes)
read-few (Ok sheet) bytes wanted is = subst (λ (s : SheetData). length s.rows ≤ length bytes) (sym is) (rows-few bytes wanted)
read-few (Err fault) bytes wanted is = tt
