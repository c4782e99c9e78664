-- Items by the places of their keys.
use Rattle.std.proofs.Common.{◌≡◌, ℕ, zero, suc, ◌+◌, ◌<◌, ◌==◌, Bool, List, [], ◌∷◌, ◌++◌, length, map, get_or, sym, ap, ◌∙◌, subst, inl, inr, arith}
use Rattle.std.specs.Prelude.{filter, flat_map, slice_index_or}
use Rattle.std.specs.List.{AllByRecursion, range_with_len}
use Rattle.std.proofs.lemmas.Bool.{cases_Bool}
use Rattle.std.proofs.lemmas.List.{length-map}
use Rattle.std.proofs.lemmas.List.Concat.{flat_map_single}
use Rattle.std.proofs.lemmas.List.Folds.{flat_map-map}
use Rattle.std.proofs.lemmas.List.FromFn.{get_or-map-range_with_len, length-map-range_with_len}
use Rattle.network.specs.Groups.{groups_of, places_of}
use Rattle.network.proofs.ArcListLemmas.{picked}

pub filter-below : (p : ℕ → Bool) (a n : ℕ) → AllByRecursion (λ i. i < a + n) (filter p (range_with_len a n))
filter-below p a zero = tt
filter-below p a (suc n) =
    let e : a + 1 + n ≡ a + suc n = omega arith in
    let rest : AllByRecursion (λ i. i < a + suc n) (filter p (range_with_len (a + 1) n)) = subst (λ (m : ℕ). AllByRecursion (λ i. i < m) (filter p (range_with_len (a + 1) n))) e (filter-below p (a + 1) n) in
    elim (cases_Bool (p a)) [
      | inl h ↦ rw h ((omega arith), rest)
      | inr h ↦ rw h rest
    ]

pub all-at : {A : Type 0} (P : A → Type 0) (xs : List A) (i : ℕ) (d : A) → AllByRecursion P xs → i < length xs → P (get_or xs i d)
all-at P [] i d h lt = absurd (omega arith)
all-at P (x ∷ xs) zero d h lt = h.0
all-at P (x ∷ xs) (suc i) d h lt = all-at P xs i d h.1 (omega arith)

pub range-below : (a n : ℕ) → AllByRecursion (λ i. i < a + n) (range_with_len a n)
range-below a zero = tt
range-below a (suc n) =
    let e : a + 1 + n ≡ a + suc n = omega arith in
    ((omega arith), subst (λ (m : ℕ). AllByRecursion (λ i. i < m) (range_with_len (a + 1) n)) e (range-below (a + 1) n))

all-append : {A : Type 0} (P : A → Type 0) (xs ys : List A) → AllByRecursion P xs → AllByRecursion P ys → AllByRecursion P (xs ++ ys)
all-append P [] ys left right = right
all-append P (x ∷ xs) ys left right = (left.0, all-append P xs ys left.1 right)

pub all-flat_map : {A B : Type 0} (P : B → Type 0) (Q : A → Type 0) (g : A → List B) (xs : List A) → ((x : A) → Q x → AllByRecursion P (g x)) → AllByRecursion Q xs → AllByRecursion P (flat_map g xs)
all-flat_map P Q g [] each all = tt
all-flat_map P Q g (x ∷ xs) each all = all-append P (g x) (flat_map g xs) (each x all.0) (all-flat_map P Q g xs each all.1)

pub all-map : {A B : Type 0} (P : B → Type 0) (Q : A → Type 0) (f : A → B) (xs : List A) → ((x : A) → Q x → P (f x)) → AllByRecursion Q xs → AllByRecursion P (map f xs)
all-map P Q f [] each all = tt
all-map P Q f (x ∷ xs) each all = (each x all.0, all-map P Q f xs each all.1)

-- the group of a key
pub group-at : (groups : List (List ℕ)) (count : ℕ) (keys : List ℕ) (key : ℕ) → groups ≡ groups_of count keys → key < count → slice_index_or groups key [] ≡ places_of keys key
group-at groups count keys key are lt = rw are (get_or-map-range_with_len (places_of keys) 0 count key key [] lt (omega arith))

pub group-there : (groups : List (List ℕ)) (count : ℕ) (keys : List ℕ) (key : ℕ) → groups ≡ groups_of count keys → key < count → key < length groups
group-there groups count keys key are lt = rw are (rw (length-map-range_with_len (places_of keys) 0 count) lt)

-- the places of a group are places of items
pub place-below : {A : Type 0} (key : A → ℕ) (wanted : ℕ) (xs : List A) (places : List ℕ) (i d : ℕ) → places ≡ places_of (map key xs) wanted → i < length places → get_or places i d < length xs
place-below key wanted xs places i d are lt =
    let lt2 : i < length (places_of (map key xs) wanted) = subst (λ (l : List ℕ). i < length l) are lt in
    let below = all-at (λ n. n < 0 + length (map key xs)) (places_of (map key xs) wanted) i d (filter-below _ 0 (length (map key xs))) lt2 in
    let long = length-map xs key in
    rw are (omega (arith, below, long))

-- the arcs of the items at the places of a group are those of the items of its key
pub picked-parts : {A B : Type 0} (f : A → B) (key : A → ℕ) (wanted : ℕ) (xs : List A) (d : A) (places : List ℕ) → places ≡ places_of (map key xs) wanted
    → flat_map (λ place. f (get_or xs place d) ∷ []) places ≡ map f (filter (λ x. key x == wanted) xs)
picked-parts f key wanted xs d places are =
    let long : length (map key xs) ≡ length xs = length-map xs key in
    let P : ℕ → Type 0 = λ n. map (λ place. get_or xs place d) (filter (λ place. get_or (map key xs) place 0 == wanted) (range_with_len 0 n)) ≡ filter (λ x. key x == wanted) xs in
    let those : map (λ place. get_or xs place d) (places_of (map key xs) wanted) ≡ filter (λ x. key x == wanted) xs = subst P (sym long) (picked key wanted xs d) in
    ap (flat_map (λ place. f (get_or xs place d) ∷ [])) are
    ∙ sym (flat_map-map (λ x. f x ∷ []) (λ place. get_or xs place d) (places_of (map key xs) wanted))
    ∙ ap (flat_map (λ x. f x ∷ [])) those
    ∙ flat_map_single f (filter (λ x. key x == wanted) xs)
