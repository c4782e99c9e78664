-- Lists over the rows of a sheet, after one more row.
use Rattle.std.proofs.Common.{◌≡◌, ℕ, ◌+◌, ◌<◌, ◌≤◌, Bool, true, false, List, [], ◌∷◌, ◌++◌, length, take, map, get_or, refl, sym, ap, ◌∙◌, inl, inr, arith}
use Rattle.std.specs.Prelude.{if◌then◌else◌, filter}
use Rattle.std.proofs.lemmas.Bool.{cases_Bool}
use Rattle.std.proofs.lemmas.List.{take_more, take_all, map-append}
use Rattle.std.proofs.lemmas.List.Elements.{filter-append}

-- one more row of a list of those that pass a test
pub filter-more : {A : Type 0} (p : A → Bool) (xs : List A) (i : ℕ) (d : A) → i < length xs → filter p (take (i + 1) xs) ≡ filter p (take i xs) ++ (if p (get_or xs i d) then get_or xs i d ∷ [] else [])
filter-more p xs i d lt = rw (take_more xs i d lt) (filter-append p (take i xs) (get_or xs i d ∷ []))

pub kept-more : {A B : Type 0} (f : A → B) (p : A → Bool) (xs : List A) (i : ℕ) (d : A) → i < length xs
    → map f (filter p (take (i + 1) xs)) ≡ map f (filter p (take i xs)) ++ (if p (get_or xs i d) then f (get_or xs i d) ∷ [] else [])
kept-more f p xs i d lt = rw (filter-more p xs i d lt, map-append f (filter p (take i xs)) (if p (get_or xs i d) then get_or xs i d ∷ [] else []))
    (elim (cases_Bool (p (get_or xs i d))) [ inl h ↦ rw h refl | inr h ↦ rw h refl ])
