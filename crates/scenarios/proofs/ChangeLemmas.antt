-- A scenario of one more row is that of the rows before with the row's edit.
use Rattle.std.proofs.Common.{◌≡◌, ◌<◌, ◌+◌, ◌++◌, ◌∷◌, ℕ, Bool, true, List, [], length, take, refl, sym, ap, ◌∙◌}
use Rattle.std.specs.Prelude.{codes}
use Rattle.std.proofs.lemmas.List.{take_more}
use Rattle.std.proofs.lemmas.List.FromFn.{length-map-range_with_len}
use Rattle.feed_reader.specs.Faults.{Fields, row_at}
use Rattle.scenarios.specs.declared.edit.Edit.{Edit}
use Rattle.scenarios.specs.declared.edit.Edit.TheVariants as edit
use Rattle.scenarios.specs.declared.edit.Target.{Target}
use Rattle.scenarios.specs.declared.edit.Target.TheVariants as target
use Rattle.scenarios.specs.Changes.{HasPart, NamesPart, WritesValue, with_edit}
use Rattle.scenarios.specs.Edits.{edit_field, name_of, range_of, target_field, target_of, value_field}
use Rattle.scenarios.specs.Scenarios.{is_any, last_value, rows_at, scenario_of}
use Rattle.scenarios.specs.Shown.{scenario_with}
use Rattle.scenarios.proofs.EditLemmas.{any-more, each-kept, each-left, number-below, number-kept, number-left, value-more}

same-scenario : (w w2 p p2 t t2 : ℕ) (s s2 f f2 : List ℕ) (d d2 c c2 : List Bool) → w ≡ w2 → p ≡ p2 → t ≡ t2 → s ≡ s2 → f ≡ f2 → d ≡ d2 → c ≡ c2
    → scenario_with w p t s f d c ≡ scenario_with w2 p2 t2 s2 f2 d2 c2
same-scenario w w2 p p2 t t2 s s2 f f2 d d2 c c2 e1 e2 e3 e4 e5 e6 e7 = rw (e1, e2, e3, e4, e5, e6, e7) refl

pub scenario-more : (change : Edit) (routes stops : List (List ℕ)) (rows : List Fields) (row : Fields) (number value : ℕ) → edit_field row ≡ name_of change
    → NamesPart routes stops (target_of change) (target_field row) number → WritesValue (range_of change) (value_field row) value
    → with_edit (scenario_of routes stops rows) change number value ≡ scenario_of routes stops (rows ++ row ∷ [])
scenario-more edit.Scale routes stops rows row number value is names writes = same-scenario _ _ _ _ _ _ _ _ _ _ _ _ _ _
    (number-left (codes "scale") (codes "wait") 50 rows row is refl)
    (number-left (codes "scale") (codes "pace") 100 rows row is refl)
    (number-left (codes "scale") (codes "transfer") 0 rows row is refl)
    (each-kept (last_value 100) value routes (codes "scale") rows row number is names (λ found. value-more 100 value found row writes))
    (each-left (last_value 0) routes (codes "scale") (codes "fare") rows row is refl)
    (each-left is_any routes (codes "scale") (codes "drop") rows row is refl)
    (each-left is_any stops (codes "scale") (codes "close") rows row is refl)
scenario-more edit.Fare routes stops rows row number value is names writes = same-scenario _ _ _ _ _ _ _ _ _ _ _ _ _ _
    (number-left (codes "fare") (codes "wait") 50 rows row is refl)
    (number-left (codes "fare") (codes "pace") 100 rows row is refl)
    (number-left (codes "fare") (codes "transfer") 0 rows row is refl)
    (each-left (last_value 100) routes (codes "fare") (codes "scale") rows row is refl)
    (each-kept (last_value 0) value routes (codes "fare") rows row number is names (λ found. value-more 0 value found row writes))
    (each-left is_any routes (codes "fare") (codes "drop") rows row is refl)
    (each-left is_any stops (codes "fare") (codes "close") rows row is refl)
scenario-more edit.Drop routes stops rows row number value is names writes = same-scenario _ _ _ _ _ _ _ _ _ _ _ _ _ _
    (number-left (codes "drop") (codes "wait") 50 rows row is refl)
    (number-left (codes "drop") (codes "pace") 100 rows row is refl)
    (number-left (codes "drop") (codes "transfer") 0 rows row is refl)
    (each-left (last_value 100) routes (codes "drop") (codes "scale") rows row is refl)
    (each-left (last_value 0) routes (codes "drop") (codes "fare") rows row is refl)
    (each-kept is_any true routes (codes "drop") rows row number is names (λ found. any-more found row))
    (each-left is_any stops (codes "drop") (codes "close") rows row is refl)
scenario-more edit.Close routes stops rows row number value is names writes = same-scenario _ _ _ _ _ _ _ _ _ _ _ _ _ _
    (number-left (codes "close") (codes "wait") 50 rows row is refl)
    (number-left (codes "close") (codes "pace") 100 rows row is refl)
    (number-left (codes "close") (codes "transfer") 0 rows row is refl)
    (each-left (last_value 100) routes (codes "close") (codes "scale") rows row is refl)
    (each-left (last_value 0) routes (codes "close") (codes "fare") rows row is refl)
    (each-left is_any routes (codes "close") (codes "drop") rows row is refl)
    (each-kept is_any true stops (codes "close") rows row number is names (λ found. any-more found row))
scenario-more edit.Transfer routes stops rows row number value is names writes = same-scenario _ _ _ _ _ _ _ _ _ _ _ _ _ _
    (number-left (codes "transfer") (codes "wait") 50 rows row is refl)
    (number-left (codes "transfer") (codes "pace") 100 rows row is refl)
    (number-kept (codes "transfer") 0 value rows row is writes)
    (each-left (last_value 100) routes (codes "transfer") (codes "scale") rows row is refl)
    (each-left (last_value 0) routes (codes "transfer") (codes "fare") rows row is refl)
    (each-left is_any routes (codes "transfer") (codes "drop") rows row is refl)
    (each-left is_any stops (codes "transfer") (codes "close") rows row is refl)
scenario-more edit.Wait routes stops rows row number value is names writes = same-scenario _ _ _ _ _ _ _ _ _ _ _ _ _ _
    (number-kept (codes "wait") 50 value rows row is writes)
    (number-left (codes "wait") (codes "pace") 100 rows row is refl)
    (number-left (codes "wait") (codes "transfer") 0 rows row is refl)
    (each-left (last_value 100) routes (codes "wait") (codes "scale") rows row is refl)
    (each-left (last_value 0) routes (codes "wait") (codes "fare") rows row is refl)
    (each-left is_any routes (codes "wait") (codes "drop") rows row is refl)
    (each-left is_any stops (codes "wait") (codes "close") rows row is refl)
scenario-more edit.Pace routes stops rows row number value is names writes = same-scenario _ _ _ _ _ _ _ _ _ _ _ _ _ _
    (number-left (codes "pace") (codes "wait") 50 rows row is refl)
    (number-kept (codes "pace") 100 value rows row is writes)
    (number-left (codes "pace") (codes "transfer") 0 rows row is refl)
    (each-left (last_value 100) routes (codes "pace") (codes "scale") rows row is refl)
    (each-left (last_value 0) routes (codes "pace") (codes "fare") rows row is refl)
    (each-left is_any routes (codes "pace") (codes "drop") rows row is refl)
    (each-left is_any stops (codes "pace") (codes "close") rows row is refl)

-- what a target names is there
pub part-there : (kind : Target) (routes stops : List (List ℕ)) (rows : List Fields) (bytes : List ℕ) (number : ℕ) → NamesPart routes stops kind bytes number → HasPart (scenario_of routes stops rows) kind number
part-there target.Route routes stops rows bytes number h = rw (length-map-range_with_len (λ (n : ℕ). last_value 100 (rows_at (codes "scale") routes n rows)) 0 (length routes)) (number-below routes bytes number h)
part-there target.Stop routes stops rows bytes number h = rw (length-map-range_with_len (λ (n : ℕ). is_any (rows_at (codes "close") stops n rows)) 0 (length stops)) (number-below stops bytes number h)
part-there target.Nothing routes stops rows bytes number h = tt

-- the same, row by row
pub scenario-next : (change : Edit) (routes stops : List (List ℕ)) (rows : List Fields) (place number value : ℕ) → place < length rows → edit_field (row_at rows place) ≡ name_of change
    → NamesPart routes stops (target_of change) (target_field (row_at rows place)) number → WritesValue (range_of change) (value_field (row_at rows place)) value
    → with_edit (scenario_of routes stops (take place rows)) change number value ≡ scenario_of routes stops (take (place + 1) rows)
scenario-next change routes stops rows place number value lt is names writes =
    scenario-more change routes stops (take place rows) (row_at rows place) number value is names writes ∙ ap (scenario_of routes stops) (sym (take_more rows place [] lt))
