-- Lists over the rows of a sheet, after one more row; and ids that stood before.
use Rattle.std.proofs.Common.{◌≡◌, ℕ, ◌+◌, ◌<◌, Bool, List, [], ◌∷◌, ◌++◌, Option, Some, None, length, take, map, get_or, refl, suc, sym, ap, ◌∙◌, inl, inr, arith}
use Rattle.std.specs.Prelude.{if◌then◌else◌, filter, filter_map, count_by, is_none}
use Rattle.std.specs.List.{AllZip, cons_option, position_from}
use Rattle.std.specs.Str.{bytes_eq}
use Rattle.std.proofs.lemmas.Bool.{cases_Bool}
use Rattle.std.proofs.lemmas.List.{take_more, take_all, map-append, take-map, get_or-map}
use Rattle.std.proofs.lemmas.List.Elements.{filter_map-append}
use Rattle.std.proofs.lemmas.List.Sums.{length-filter}
use Rattle.std.proofs.lemmas.Slice.Eq.{bytes_eq-Decides}
use Rattle.feed_reader.specs.Ids.{is_known, number_of, stood_before}

-- all rows
pub all-rows : {A : Type 0} (xs : List A) → take (length xs) xs ≡ xs
all-rows xs = take_all (length xs) xs (omega arith)

-- one more row of a list of all
pub map-more : {A B : Type 0} (f : A → B) (xs : List A) (i : ℕ) (d : A) → i < length xs → map f (take (i + 1) xs) ≡ map f (take i xs) ++ (f (get_or xs i d) ∷ [])
map-more f xs i d lt = rw (take_more xs i d lt) (map-append f (take i xs) (get_or xs i d ∷ []))

-- a list of all rows so far, with what is made of the next one behind it
pub listed-more : {A B : Type 0} (f : A → B) (xs : List A) (i : ℕ) (d : A) (old new : List B) → i < length xs → old ≡ map f (take i xs) → new ≡ old ++ (f (get_or xs i d) ∷ []) → new ≡ map f (take (i + 1) xs)
listed-more f xs i d old new lt before now = now ∙ rw before (sym (map-more f xs i d lt))

-- one more row of a list of those that give something
pub given-more : {A B : Type 0} (f : A → Option B) (xs : List A) (i : ℕ) (d : A) → i < length xs → filter_map f (take (i + 1) xs) ≡ filter_map f (take i xs) ++ filter_map f (get_or xs i d ∷ [])
given-more f xs i d lt = rw (take_more xs i d lt) (filter_map-append f (take i xs) (get_or xs i d ∷ []))

pub given-next : {A B : Type 0} (f : A → Option B) (xs : List A) (i : ℕ) (d : A) (old new : List B) → i < length xs → old ≡ filter_map f (take i xs) → new ≡ old ++ filter_map f (get_or xs i d ∷ []) → new ≡ filter_map f (take (i + 1) xs)
given-next f xs i d old new lt before now = now ∙ rw before (sym (given-more f xs i d lt))

pub given-all : {A B : Type 0} (f : A → Option B) (xs : List A) (i : ℕ) (list : List B) → i ≡ length xs → list ≡ filter_map f (take i xs) → list ≡ filter_map f xs
given-all f xs i list end is = is ∙ rw (end, all-rows xs) refl

-- one more row, beside what is made of it
zip-push : {A B : Type 0} (R : A → B → Type 0) (xs : List A) (ys : List B) (x : A) (y : B) → AllZip R xs ys → R x y → AllZip R (xs ++ x ∷ []) (ys ++ y ∷ [])
zip-push R [] [] x y all one = (one, tt)
zip-push R [] (z ∷ ys) x y all one = absurd all
zip-push R (w ∷ xs) [] x y all one = absurd all
zip-push R (w ∷ xs) (z ∷ ys) x y all one = (all.0, zip-push R xs ys x y all.1 one)

pub zip-more : {A B : Type 0} (R : A → B → Type 0) (xs : List A) (i : ℕ) (d : A) (ys : List B) (y : B) → i < length xs → AllZip R (take i xs) ys → R (get_or xs i d) y → AllZip R (take (i + 1) xs) (ys ++ y ∷ [])
zip-more R xs i d ys y lt all one = rw (take_more xs i d lt) (zip-push R (take i xs) ys (get_or xs i d) y all one)

-- whether the id of a row stood before, by the ids of the rows before it
pub stood-known : {A : Type 0} (f : A → List ℕ) (xs : List A) (i : ℕ) (d : A) (ids : List (List ℕ)) → i < length xs → ids ≡ map f (take i xs) → stood_before (map f xs) i ≡ is_known ids (f (get_or xs i d))
stood-known f xs i d ids lt is = rw (take-map f i xs, get_or-map f xs i d [] lt, is) refl

-- what is not among all is not among some
absent : {A : Type 0} (f : A → List ℕ) (p : A → Bool) (t : List ℕ → Bool) (xs : List A) (s z : ℕ) → position_from t s (map f xs) ≡ None → position_from t z (map f (filter p xs)) ≡ None
absent f p t [] s z h = refl
absent f p t (x ∷ xs) s z h = elim (cases_Bool (t (f x))) [
  | inl here ↦ let found : Some s ≡ None = rw here at h in absurd (cc found)
  | inr not ↦
      let later : position_from t (s + 1) (map f xs) ≡ None = rw not at h in
      elim (cases_Bool (p x)) [
        | inl keep ↦ rw (keep, not) (absent f p t xs (s + 1) (z + 1) later)
        | inr skip ↦ rw skip (absent f p t xs (s + 1) z later)
      ]
]

pub number-absent : {A : Type 0} (f : A → List ℕ) (p : A → Bool) (xs : List A) (id : List ℕ) → number_of (map f xs) id ≡ None → number_of (map f (filter p xs)) id ≡ None
number-absent f p xs id h = absent f p (bytes_eq id) xs 0 0 h

-- the id of a number is the one that was looked for
found-from : (id : List ℕ) (ids : List (List ℕ)) (s n : ℕ) (d : List ℕ) → position_from (bytes_eq id) s ids ≡ Some n → (k : ℕ) × (s + k ≡ n) × (get_or ids k d ≡ id)
found-from id [] s n d h = absurd (cc h)
found-from id (x ∷ ids) s n d h = elim (cases_Bool (bytes_eq id x)) [
  | inl here ↦
      let is : Some s ≡ Some n = rw here at h in
      let at : s ≡ n = cc is in
      (0, omega arith, sym ((bytes_eq-Decides id x).0 here))
  | inr not ↦
      let later = found-from id ids (s + 1) n d (rw not at h) in
      (suc later.0, omega (arith, later.1), later.2)
]

pub number-found : (ids : List (List ℕ)) (id : List ℕ) (n : ℕ) (d : List ℕ) → number_of ids id ≡ Some n → get_or ids n d ≡ id
number-found ids id n d h = let found = found-from id ids 0 n d h in let same : found.0 ≡ n = omega (arith, found.1) in rw (← same) found.2

-- each row gives something or nothing
one-given : {A B : Type 0} (o : Option B) (x : A) (ys : List B) (zs : List A) (n : ℕ) → length ys + length zs ≡ n → length (cons_option o ys) + length (if is_none o then x ∷ zs else zs) ≡ suc n
one-given None x ys zs n e =
    let given : length (cons_option None ys) ≡ length ys = refl in
    let left : length (x ∷ zs) ≡ suc (length zs) = refl in
    rw (given, left) (omega arith)
one-given (Some y) x ys zs n e =
    let given : length (cons_option (Some y) ys) ≡ suc (length ys) = refl in
    rw given (omega arith)

given-kept : {A B : Type 0} (f : A → Option B) (xs : List A) → length (filter_map f xs) + length (filter (λ x. is_none (f x)) xs) ≡ length xs
given-kept f [] = refl
given-kept f (x ∷ xs) = one-given (f x) x (filter_map f xs) (filter (λ y. is_none (f y)) xs) (length xs) (given-kept f xs)

pub given-or-not : {A B : Type 0} (f : A → Option B) (xs : List A) → length (filter_map f xs) + count_by (λ x. is_none (f x)) xs ≡ length xs
given-or-not f xs = ap (λ (n : ℕ). length (filter_map f xs) + n) (sym (length-filter (λ x. is_none (f x)) xs)) ∙ given-kept f xs
