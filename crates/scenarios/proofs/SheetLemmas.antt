-- The faults of a sheet as those of a scenario, and the rows behind them.
use Rattle.std.proofs.Common.{◌≡◌, ℕ, List, [], ◌∷◌, ◌++◌, Some, map, refl, sym, ap, ◌∙◌, inl, inr}
use Rattle.std.specs.Prelude.{slice_get}
use Rattle.gtfs_rows.specs.Faults as sheet
use Rattle.gtfs_rows.specs.declared.row_fault.RowFault.{RowFault}
use Rattle.gtfs_rows.specs.declared.row_fault.RowFault.TheVariants as row
use Rattle.feed_reader.specs.Faults.{Fields}
use Rattle.scenarios.specs.declared.fault.ScenarioFault.{ScenarioFault}
use Rattle.scenarios.specs.declared.fault.ScenarioFault.TheVariants as fault
use Rattle.scenarios.specs.Faults.{IsFirstFault, rows_faults}
use Rattle.scenarios.specs.Handed.{of_sheet}
use Rattle.scenarios.proofs.FaultLemmas.{is-first-behind}

mapped : (faults : List RowFault) (found : RowFault) (e : ScenarioFault) → slice_get faults 0 ≡ Some found → e ≡ fault.Row found → slice_get (map fault.Row faults) 0 ≡ Some e
mapped [] found e h is = absurd (cc h)
mapped (f ∷ fs) found e h is = let same : f ≡ found = cc h in ap (λ (x : RowFault). Some (fault.Row x)) same ∙ ap (λ (x : ScenarioFault). Some x) (sym is)

placed : (faults : List RowFault) (found : RowFault) (e : ScenarioFault) → ¬ (found ≡ row.NoMemory) → sheet.IsFirstFault faults found → e ≡ fault.Row found → IsFirstFault (map fault.Row faults) e
placed faults found e other (inl none) is = absurd (other none)
placed faults found e other (inr first) is = inr (mapped faults found e first is)

-- the first fault of a sheet is that of the scenario
pub sheet-refused : (faults : List RowFault) (found : RowFault) (e : ScenarioFault) → sheet.IsFirstFault faults found → e ≡ of_sheet found → IsFirstFault (map fault.Row faults) e
sheet-refused faults row.NoMemory e h is = inl is
sheet-refused faults (row.NotUtf8 p) e h is = placed faults (row.NotUtf8 p) e (λ k. cc k) h is
sheet-refused faults (row.NoHeader p) e h is = placed faults (row.NoHeader p) e (λ k. cc k) h is
sheet-refused faults (row.MissingColumn p) e h is = placed faults (row.MissingColumn p) e (λ k. cc k) h is
sheet-refused faults (row.DoubleColumn p) e h is = placed faults (row.DoubleColumn p) e (λ k. cc k) h is
sheet-refused faults (row.RowWidth p) e h is = placed faults (row.RowWidth p) e (λ k. cc k) h is
sheet-refused faults (row.BadField p) e h is = placed faults (row.BadField p) e (λ k. cc k) h is

-- the faults of equal rows over equal ids
pub same-faults : (routes routes2 stops stops2 : List (List ℕ)) (rows rows2 : List Fields) → routes ≡ routes2 → stops ≡ stops2 → rows ≡ rows2 → rows_faults routes stops rows ≡ rows_faults routes2 stops2 rows2
same-faults routes routes2 stops stops2 rows rows2 r s e = rw (r, s, e) refl

-- behind a sheet without faults
pub joined-none : (front : List RowFault) (rest rest2 : List ScenarioFault) → front ≡ [] → rest ≡ rest2 → rest ≡ [] → map fault.Row front ++ rest2 ≡ []
joined-none front rest rest2 none same h = rw (none, ← same, h) refl

pub joined-first : (front : List RowFault) (rest rest2 : List ScenarioFault) (e : ScenarioFault) → front ≡ [] → rest ≡ rest2 → IsFirstFault rest e → IsFirstFault (map fault.Row front ++ rest2) e
joined-first front rest rest2 e none same h = is-first-behind (map fault.Row front) rest2 e (ap (map fault.Row) none) (rw same at h)
