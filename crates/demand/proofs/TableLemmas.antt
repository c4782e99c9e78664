-- A table of bytes by the sheet that was read of them.
use Rattle.std.proofs.Common.{◌≡◌, ℕ, ◌≤◌, List, [], ◌++◌, length, refl, sym, ap, ◌∙◌, subst}
use Rattle.gtfs_rows.specs.Faults.{sheet_faults}
use Rattle.gtfs_rows.specs.Faults as sheets
use Rattle.gtfs_rows.specs.Sheets.{SheetData, sheet_of}
use Rattle.gtfs_rows.specs.declared.row_fault.RowFault.{RowFault}
use Rattle.gtfs_rows.specs.declared.wanted.Column.{Column}
use Rattle.feed_reader.specs.Faults.{Fields}
use Rattle.demand.specs.declared.amounts.Amounts.{Amounts}
use Rattle.demand.specs.declared.fault.DemandFault.{DemandFault}
use Rattle.demand.specs.Amounts.{AreAmounts, AreSound}
use Rattle.demand.specs.Columns.{demand_columns}
use Rattle.demand.specs.Demands.{DemandData, demand_of}
use Rattle.demand.specs.Faults.{IsFirstFault, table_faults}
use Rattle.demand.specs.Handed.{of_sheet}
use Rattle.demand.proofs.FaultLemmas.{rows-refused, sheet-refused, table-faultless}

-- what is said of the ids and the rows that were read is said of those of the table
pub same-table : {X : Type 0} (f : List (List ℕ) → List Fields → X) (numbers ids : List (List ℕ)) (sheet : SheetData) (bytes : List ℕ) (wanted columns : List Column)
    → numbers ≡ ids → sheet ≡ sheet_of bytes wanted → wanted ≡ columns → f numbers sheet.rows ≡ f ids (sheet_of bytes columns).rows
same-table f numbers ids sheet bytes wanted columns a b c =
    ap (λ (n : List (List ℕ)). f n sheet.rows) a ∙ ap (λ (s : SheetData). f ids s.rows) b ∙ ap (λ (w : List Column). f ids (sheet_of bytes w).rows) c

pub table-sheet-refused : (file bytes : List ℕ) (wanted columns : List Column) (more : List DemandFault) (e : RowFault) → wanted ≡ columns → sheets.IsFirstFault (sheet_faults file bytes wanted) e
    → IsFirstFault (table_faults file bytes columns more) (of_sheet e)
table-sheet-refused file bytes wanted columns more e same h = sheet-refused file bytes columns more e (subst (λ (w : List Column). sheets.IsFirstFault (sheet_faults file bytes w) e) same h)

pub table-rows-refused : (file bytes : List ℕ) (wanted columns : List Column) (found more : List DemandFault) (e : DemandFault) → wanted ≡ columns → sheet_faults file bytes wanted ≡ [] → found ≡ more
    → IsFirstFault found e → IsFirstFault (table_faults file bytes columns more) e
table-rows-refused file bytes wanted columns found more e same none is h =
    rows-refused file bytes columns more e (sym (ap (sheet_faults file bytes) same) ∙ none) (subst (λ (faults : List DemandFault). IsFirstFault faults e) is h)

pub table-none : (file bytes : List ℕ) (wanted columns : List Column) (found more : List DemandFault) → wanted ≡ columns → sheet_faults file bytes wanted ≡ [] → found ≡ more → found ≡ []
    → table_faults file bytes columns more ≡ []
table-none file bytes wanted columns found more same none is rest = table-faultless file bytes columns more (sym (ap (sheet_faults file bytes) same) ∙ none) (sym is ∙ rest)

pub demand-read : (names ids : List (List ℕ)) (sheet : SheetData) (bytes : List ℕ) (wanted : List Column) (demand : DemandData) (amounts : Amounts) → ids ≡ names → sheet ≡ sheet_of bytes wanted
    → wanted ≡ demand_columns → length ids ≤ 4096 → AreAmounts ids sheet.rows amounts → AreSound (length ids) (length sheet.rows) amounts
    → ((zones : List (List ℕ)) (rows : List Fields) → length zones ≤ 4096 → AreAmounts zones rows amounts → AreSound (length zones) (length rows) amounts → demand ≡ demand_of zones rows)
    → demand ≡ demand_of names (sheet_of bytes demand_columns).rows
demand-read names ids sheet bytes wanted demand amounts a b c few all sound h = h ids sheet.rows few all sound ∙ same-table demand_of ids names sheet bytes wanted demand_columns a b c
