-- Steps of reading the records of a sheet.
use Rattle.std.proofs.Common.{◌≡◌, ℕ, ◌+◌, ◌*◌, Bool, true, false, List, [], ◌∷◌, ◌++◌, Option, Some, length, map, refl, sym, ◌∙◌, arith, append_assoc, eq-eqb}
use Rattle.std.specs.Prelude.{◌==◌, if◌then◌else◌, slice_get}
use Rattle.std.proofs.lemmas.Bool.{ne_eqb}
use Rattle.std.proofs.lemmas.List.{length-map}
use Rattle.gtfs_rows.specs.declared.place.Place.{Place}
use Rattle.gtfs_rows.specs.declared.row_fault.RowFault.TheVariants as fault
use Rattle.gtfs_rows.specs.Faults.{row_place, width_faults}
use Rattle.gtfs_rows.specs.Records.{trimmed}
use Rattle.gtfs_rows.specs.Shape.{rows_of}
use Rattle.gtfs_rows.specs.Sheets.{field_in}
use Rattle.gtfs_rows.proofs.RowLemmas.{rows-push}

-- what a read found
pub left-some : (found : Bool) (left left2 : List (List (List ℕ))) (r : List (List ℕ)) → found ≡ true → left ≡ (if found then r ∷ left2 else []) → left ≡ r ∷ left2
left-some found left left2 r e h = rw e at h

-- a record as long as the first has no fault
pub faults-more : (file : List ℕ) (width n : ℕ) (left left2 : List (List (List ℕ))) (r : List (List ℕ)) → left ≡ r ∷ left2 → length r ≡ width
    → width_faults file width (n + 1 + 2) (map (map trimmed) left2) ≡ width_faults file width (n + 2) (map (map trimmed) left)
faults-more file width n left left2 r next even =
    let long : length (map trimmed r) ≡ width = length-map r trimmed ∙ even in
    let same : (length (map trimmed r) == width) ≡ true = eq-eqb _ _ long in
    let step : n + 2 + 1 ≡ n + 1 + 2 = omega arith in
    rw (next, same, step) refl

-- any other is the first fault
pub faults-uneven : (file : List ℕ) (width n : ℕ) (left left2 : List (List (List ℕ))) (r : List (List ℕ)) (place : Place) → left ≡ r ∷ left2 → ¬ (length r ≡ width) → place ≡ row_place file (n + 2)
    → slice_get (width_faults file width (n + 2) (map (map trimmed) left)) 0 ≡ Some (fault.RowWidth place)
faults-uneven file width n left left2 r place next uneven is =
    let other : (length (map trimmed r) == width) ≡ false = ne_eqb _ _ (λ e. uneven (sym (length-map r trimmed) ∙ e)) in
    rw (next, other, is) refl

-- the rows so far and those to come are all rows
pub rows-next : (places : List (Option ℕ)) (count : ℕ) (fields fields2 r : List (List ℕ)) (left left2 total : List (List (List ℕ))) → length fields ≡ count * length places
    → fields2 ≡ fields ++ map (field_in (map trimmed r)) places → left ≡ r ∷ left2
    → rows_of (length places) count fields ++ map (λ row. map (field_in row) places) (map (map trimmed) left) ≡ total
    → rows_of (length places) (count + 1) fields2 ++ map (λ row. map (field_in row) places) (map (map trimmed) left2) ≡ total
rows-next places count fields fields2 r left left2 total whole more next so_far =
    let rows = rows-push (length places) count fields (map (field_in (map trimmed r)) places) whole (length-map places (field_in (map trimmed r))) in
    rw (more, rows) (simp append_assoc (rw next at so_far))
