-- The first of some faults.
use Rattle.std.proofs.Common.{◌≡◌, ℕ, ◌<◌, ◌+◌, List, [], ◌∷◌, ◌++◌, true, Some, length, take, drop, get_or, refl, sym, ap, ◌∙◌, inl, inr, arith, subst}
use Rattle.std.specs.Prelude.{flat_map, nat_lt, slice_get}
use Rattle.std.proofs.lemmas.Bool.Decides.{nat_tests}
use Rattle.std.proofs.lemmas.List.{drop_more, take-append-drop}
use Rattle.std.proofs.lemmas.List.Concat.{flat_map-append}
use Rattle.gtfs_rows.specs.declared.place.Place.{Place}
use Rattle.gtfs_rows.specs.declared.row_fault.RowFault.{RowFault}
use Rattle.gtfs_rows.specs.declared.row_fault.RowFault.TheVariants as fault
use Rattle.gtfs_rows.specs.declared.wanted.Column.{Column}
use Rattle.gtfs_rows.specs.Faults.{IsFirstFault, column_faults, column_place, times}

-- the first fault of a front is that of the whole
pub first-front : (front rest : List RowFault) (e : RowFault) → slice_get front 0 ≡ Some e → slice_get (front ++ rest) 0 ≡ Some e
first-front [] rest e h = absurd (cc h)
first-front (f ∷ fs) rest e h = h

pub is-first-front : (front rest : List RowFault) (e : RowFault) → IsFirstFault front e → IsFirstFault (front ++ rest) e
is-first-front front rest e (inl h) = inl h
is-first-front front rest e (inr h) = inr (first-front front rest e h)

-- behind a front without faults
pub is-first-behind : (front rest : List RowFault) (e : RowFault) → front ≡ [] → IsFirstFault rest e → IsFirstFault (front ++ rest) e
is-first-behind front rest e none h = rw none h

-- the first fault of one in turn, where those before have none
pub is-first-at : {A : Type 0} (f : A → List RowFault) (xs : List A) (i : ℕ) (x : A) (e : RowFault) → i < length xs → x ≡ get_or xs i x → flat_map f (take i xs) ≡ [] → IsFirstFault (f x) e
    → IsFirstFault (flat_map f xs) e
is-first-at {A} f xs i x e lt at none h =
    let here : drop i xs ≡ x ∷ drop (i + 1) xs = drop_more xs i x lt ∙ rw (← at) refl in
    let whole : xs ≡ take i xs ++ x ∷ drop (i + 1) xs = sym (take-append-drop i xs) ∙ ap (λ (ys : List A). take i xs ++ ys) here in
    let parts : flat_map f xs ≡ flat_map f (take i xs) ++ (f x ++ flat_map f (drop (i + 1) xs)) = ap (flat_map f) whole ∙ flat_map-append f (take i xs) (x ∷ drop (i + 1) xs) in
    subst (λ (faults : List RowFault). IsFirstFault faults e) (sym parts) (is-first-behind (flat_map f (take i xs)) _ e none (is-first-front (f x) _ e h))

-- the faults of a column
pub double-first : (file : List ℕ) (header : List (List ℕ)) (column : Column) (place : Place) → 1 < times column.name header → place ≡ column_place file column.name
    → slice_get (column_faults file header column) 0 ≡ Some (fault.DoubleColumn place)
double-first file header column place many is = let test : nat_lt 1 (times column.name header) ≡ true = grind (arith, nat_tests) in rw (test, is) refl

pub missing-first : (file : List ℕ) (header : List (List ℕ)) (column : Column) (place : Place) → column.required ≡ true → times column.name header ≡ 0 → place ≡ column_place file column.name
    → slice_get (column_faults file header column) 0 ≡ Some (fault.MissingColumn place)
missing-first file header column place required none is = rw (none, required, is) refl
