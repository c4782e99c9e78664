-- Rows of one width that lie one after the other.
use Rattle.std.proofs.Common.{◌≡◌, ℕ, zero, suc, ◌<◌, ◌≤◌, ◌+◌, ◌*◌, List, [], ◌∷◌, ◌++◌, length, drop, get_or, refl, sym, ap, ◌∙◌, arith}
use Rattle.std.proofs.Math.Nat.{mul-le-mul_right}
use Rattle.std.proofs.lemmas.List.{drop-append-le, get_or-drop, get_or-take, length-append, length-drop, take-append-le, take_all}
use Rattle.gtfs_rows.specs.Shape.{HasShape, rows_of}
use Rattle.gtfs_rows.specs.Sheets.{SheetData, cell}

-- rows of one width
pub rows-push : (width count : ℕ) (fields row : List (List ℕ)) → length fields ≡ count * width → length row ≡ width → rows_of width (count + 1) (fields ++ row) ≡ rows_of width count fields ++ (row ∷ [])
unfolding rows_of
rows-push width zero fields row whole size = let none : fields ≡ [] = nil-from-length fields (omega arith) in rw none (ap (λ (r : List (List ℕ)). r ∷ []) (take_all width row (omega arith)))
  where
    nil-from-length : (xs : List (List ℕ)) → length xs ≡ 0 → xs ≡ []
    nil-from-length [] e = refl
    nil-from-length (x ∷ xs) e = absurd (omega arith)
rows-push width (suc count) fields row whole size =
    let step : suc count + 1 ≡ suc (count + 1) = omega arith in
    let long : width ≤ length fields = omega arith in
    let rest : length (drop width fields) ≡ count * width = omega (arith, length-drop width fields) in
    let later = rows-push width count (drop width fields) row rest size in
    rw (step, take-append-le width fields row long, drop-append-le width fields row long, later) refl

pub shape-push : (width count : ℕ) (fields row : List (List ℕ)) → length fields ≡ count * width → length row ≡ width → length (fields ++ row) ≡ (count + 1) * width
shape-push width count fields row whole size = omega (arith, length-append fields row)

pub rows-none : (width : ℕ) (fields : List (List ℕ)) → rows_of width 0 fields ≡ []
unfolding rows_of
rows-none width fields = refl

pub length-rows : (width count : ℕ) (fields : List (List ℕ)) → length (rows_of width count fields) ≡ count
unfolding rows_of
length-rows width zero fields = refl
length-rows width (suc count) fields = ap suc (length-rows width count (drop width fields))

-- a field of a row
pub cell-is : (width count : ℕ) (fields : List (List ℕ)) (row column : ℕ) → row < count → column < width → get_or (get_or (rows_of width count fields) row []) column [] ≡ get_or fields (row * width + column) []
unfolding rows_of
cell-is width zero fields row column lt lc = absurd (omega arith)
cell-is width (suc count) fields zero column lt lc = get_or-take width fields column [] lc ∙ ap (λ (i : ℕ). get_or fields i []) (omega arith)
cell-is width (suc count) fields (suc row) column lt lc = cell-is width count (drop width fields) row column (omega arith) lc ∙ get_or-drop width fields (row * width + column) [] ∙ ap (λ (i : ℕ). get_or fields i []) (omega arith)

-- a field's place is among the fields
pub cell-within : (width count : ℕ) (fields : List (List ℕ)) (row column : ℕ) → HasShape width count fields → row < count → column < width
    → (row * width + column < length fields) × (row * width ≤ row * width + column)
cell-within width count fields row column shape lt lc =
    let whole = shape.whole in
    let next : (row + 1) * width ≤ count * width = mul-le-mul_right width (omega arith) in
    (omega arith, omega arith)

pub row-shown : (width count : ℕ) (fields : List (List ℕ)) (shown : SheetData) (row : ℕ) → record { width = width; rows = rows_of width count fields } ≡ shown → row < length shown.rows → row < count
row-shown width count fields shown row is lt =
    let rows : length (rows_of width count fields) ≡ length shown.rows = ap (λ (s : SheetData). length s.rows) is in
    let size = length-rows width count fields in
    omega arith

pub cell-shown : (width count : ℕ) (fields : List (List ℕ)) (shown : SheetData) (row column : ℕ) → record { width = width; rows = rows_of width count fields } ≡ shown → row < length shown.rows → column < shown.width
    → get_or fields (row * width + column) [] ≡ cell shown row column
cell-shown width count fields shown row column is lt lc =
    let at : width ≡ shown.width = ap (λ (s : SheetData). s.width) is in
    let here = cell-is width count fields row column (row-shown width count fields shown row is lt) (omega arith) in
    sym here ∙ ap (λ (s : SheetData). cell s row column) is
