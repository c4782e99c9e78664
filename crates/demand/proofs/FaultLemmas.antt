-- The first of some faults.
use Rattle.std.proofs.Common.{◌≡◌, ℕ, zero, suc, ◌+◌, ◌-◌, ◌<◌, Bool, true, false, List, [], ◌∷◌, ◌++◌, Some, length, refl, sym, ap, ◌∙◌, inl, inr, arith, subst}
use Rattle.std.specs.Prelude.{flat_map, map, slice_get}
use Rattle.std.specs.List.{range_with_len}
use Rattle.std.proofs.lemmas.List.{append-nil}
use Rattle.std.proofs.lemmas.List.Concat.{flat_map-append}
use Rattle.demand.specs.declared.fault.DemandFault.{DemandFault}
use Rattle.demand.specs.declared.fault.DemandFault.TheVariants as fault
use Rattle.gtfs_rows.specs.Faults as sheets
use Rattle.gtfs_rows.specs.declared.place.Place.{Place}
use Rattle.gtfs_rows.specs.declared.row_fault.RowFault.{RowFault}
use Rattle.gtfs_rows.specs.declared.row_fault.RowFault.TheVariants as row
use Rattle.gtfs_rows.specs.declared.wanted.Column.{Column}
use Rattle.feed_reader.specs.Faults.{Fields}
use Rattle.demand.specs.Faults.{IsFirstFault, fault_if, faults_of_rows, table_faults}
use Rattle.demand.specs.Handed.{of_sheet}

-- the first fault of a front is that of the whole
first-front : (front rest : List DemandFault) (e : DemandFault) → slice_get front 0 ≡ Some e → slice_get (front ++ rest) 0 ≡ Some e
first-front [] rest e h = absurd (cc h)
first-front (f ∷ fs) rest e h = h

pub in-front : (front rest : List DemandFault) (e : DemandFault) → IsFirstFault front e → IsFirstFault (front ++ rest) e
in-front front rest e (inl h) = inl h
in-front front rest e (inr h) = inr (first-front front rest e h)

-- behind a front without faults
pub behind : (front rest : List DemandFault) (e : DemandFault) → front ≡ [] → IsFirstFault rest e → IsFirstFault (front ++ rest) e
behind front rest e none h = rw none h

-- two parts without faults
pub both-none : (front rest : List DemandFault) → front ≡ [] → rest ≡ [] → front ++ rest ≡ []
both-none front rest a b = rw (a, b) refl

range-split : (s m n : ℕ) → range_with_len s (m + n) ≡ range_with_len s m ++ range_with_len (s + m) n
range-split s zero n =
    let here : zero + n ≡ n = omega arith in
    let there : s + zero ≡ s = omega arith in
    ap (range_with_len s) here ∙ ap (λ (t : ℕ). range_with_len t n) (sym there)
range-split s (suc m) n =
    let here : suc m + n ≡ suc (m + n) = omega arith in
    let there : s + 1 + m ≡ s + suc m = omega arith in
    ap (range_with_len s) here
    ∙ ap (λ (rest : List ℕ). s ∷ rest) (range-split (s + 1) m n ∙ ap (λ (t : ℕ). range_with_len (s + 1) m ++ range_with_len t n) there)

-- the faults of a range in two parts
parts-of : {A : Type 0} (f : ℕ → List A) (i k n : ℕ) → i + k ≡ n → flat_map f (range_with_len 0 n) ≡ flat_map f (range_with_len 0 i) ++ flat_map f (range_with_len i k)
parts-of f i k n size =
    let zero-first : 0 + i ≡ i = omega arith in
    let split : range_with_len 0 (i + k) ≡ range_with_len 0 i ++ range_with_len i k = range-split 0 i k ∙ ap (λ (t : ℕ). range_with_len 0 i ++ range_with_len t k) zero-first in
    ap (λ (t : ℕ). flat_map f (range_with_len 0 t)) (sym size) ∙ ap (flat_map f) split ∙ flat_map-append f (range_with_len 0 i) (range_with_len i k)

-- one more row
pub range-more : {A : Type 0} (f : ℕ → List A) (i : ℕ) → flat_map f (range_with_len 0 (i + 1)) ≡ flat_map f (range_with_len 0 i) ++ f i
range-more {A} f i = parts-of f i 1 (i + 1) refl ∙ ap (λ (rest : List A). flat_map f (range_with_len 0 i) ++ rest) (append-nil (f i))

-- one more row without a fault
pub none-more : (f : ℕ → List DemandFault) (i : ℕ) → flat_map f (range_with_len 0 i) ≡ [] → f i ≡ [] → flat_map f (range_with_len 0 (i + 1)) ≡ []
none-more f i before here = range-more f i ∙ both-none (flat_map f (range_with_len 0 i)) (f i) before here

-- the first fault of a row, where the rows before have none, is that of all rows
pub first-of-rows : (f : ℕ → List DemandFault) (rows : List Fields) (i : ℕ) (e : DemandFault) → i < length rows → flat_map f (range_with_len 0 i) ≡ [] → IsFirstFault (f i) e
    → IsFirstFault (faults_of_rows f rows) e
first-of-rows f rows i e lt none h =
    let whole = parts-of f i (suc (length rows - i - 1)) (length rows) (omega (arith, lt)) in
    subst (λ (faults : List DemandFault). IsFirstFault faults e) (sym whole)
    (behind (flat_map f (range_with_len 0 i)) _ e none (in-front (f i) _ e h))

told : (f : RowFault) (fs : List RowFault) (more : List DemandFault) (e : RowFault) → f ≡ e → IsFirstFault (map fault.Row (f ∷ fs) ++ more) (of_sheet e)
told f fs more row.NoMemory is = inl refl
told f fs more (row.NotUtf8 place) is = inr (ap (λ (x : RowFault). Some (fault.Row x)) is)
told f fs more (row.NoHeader place) is = inr (ap (λ (x : RowFault). Some (fault.Row x)) is)
told f fs more (row.MissingColumn place) is = inr (ap (λ (x : RowFault). Some (fault.Row x)) is)
told f fs more (row.DoubleColumn place) is = inr (ap (λ (x : RowFault). Some (fault.Row x)) is)
told f fs more (row.RowWidth place) is = inr (ap (λ (x : RowFault). Some (fault.Row x)) is)
told f fs more (row.BadField place) is = inr (ap (λ (x : RowFault). Some (fault.Row x)) is)

handed : (faults : List RowFault) (more : List DemandFault) (e : RowFault) → sheets.IsFirstFault faults e → IsFirstFault (map fault.Row faults ++ more) (of_sheet e)
handed faults more e (inl h) = inl (ap of_sheet h)
handed [] more e (inr h) = absurd (cc h)
handed (f ∷ fs) more e (inr h) = told f fs more e (cc h)

-- a fault of the sheet, and one of the rows of a sheet without a fault
pub sheet-refused : (file bytes : List ℕ) (wanted : List Column) (more : List DemandFault) (e : RowFault) → sheets.IsFirstFault (sheets.sheet_faults file bytes wanted) e
    → IsFirstFault (table_faults file bytes wanted more) (of_sheet e)
sheet-refused file bytes wanted more e h = handed (sheets.sheet_faults file bytes wanted) more e h

pub rows-refused : (file bytes : List ℕ) (wanted : List Column) (more : List DemandFault) (e : DemandFault) → sheets.sheet_faults file bytes wanted ≡ [] → IsFirstFault more e
    → IsFirstFault (table_faults file bytes wanted more) e
rows-refused file bytes wanted more e none h = behind (map fault.Row (sheets.sheet_faults file bytes wanted)) more e (ap (map fault.Row) none) h

pub table-faultless : (file bytes : List ℕ) (wanted : List Column) (more : List DemandFault) → sheets.sheet_faults file bytes wanted ≡ [] → more ≡ [] → table_faults file bytes wanted more ≡ []
table-faultless file bytes wanted more none rest = both-none (map fault.Row (sheets.sheet_faults file bytes wanted)) more (ap (map fault.Row) none) rest

-- parts of faults that are none
pub front-none : (front rest : List DemandFault) → front ++ rest ≡ [] → front ≡ []
front-none [] rest h = refl
front-none (f ∷ fs) rest h = absurd (cc h)

pub rest-none : (front rest : List DemandFault) → front ++ rest ≡ [] → rest ≡ []
rest-none [] rest h = h
rest-none (f ∷ fs) rest h = absurd (cc h)

pub test-false : (test : Bool) (found : DemandFault) → fault_if test found ≡ [] → test ≡ false
test-false true found h = absurd (cc h)
test-false false found h = refl

-- what stands behind a front counts only where the front has no fault
pub front-decides : (front rest other : List DemandFault) (e : DemandFault) → (front ≡ [] → rest ≡ other) → IsFirstFault (front ++ rest) e → IsFirstFault (front ++ other) e
front-decides [] rest other e same h = rw (sym (same refl)) h
front-decides (f ∷ fs) rest other e same h = h

-- the faults of a row among those of all
pub row-none : (f : ℕ → List DemandFault) (rows : List Fields) (i : ℕ) → i < length rows → faults_of_rows f rows ≡ [] → f i ≡ []
row-none f rows i lt none =
    let whole = parts-of f (i + 1) (length rows - i - 1) (length rows) (omega (arith, lt)) in
    let front = front-none (flat_map f (range_with_len 0 (i + 1))) (flat_map f (range_with_len (i + 1) (length rows - i - 1))) (sym whole ∙ none) in
    rest-none (flat_map f (range_with_len 0 i)) (f i) (sym (range-more f i) ∙ front)
