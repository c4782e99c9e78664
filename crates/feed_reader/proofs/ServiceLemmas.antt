-- Ids that are noted one after the other.
use Rattle.std.proofs.Common.{◌≡◌, ℕ, zero, suc, ◌+◌, ◌<◌, ◌≤◌, Bool, true, false, List, [], ◌∷◌, ◌++◌, Some, None, length, take, map, get_or, refl, sym, ap, ◌∙◌, inl, inr, arith, subst}
use Rattle.std.specs.Prelude.{◌||◌, if◌then◌else◌, flat_map, is_some, slice_index_or}
use Rattle.std.specs.List.{list_any, position_from, range_with_len}
use Rattle.std.specs.Str.{bytes_eq}
use Rattle.std.proofs.lemmas.Bool.{cases_Bool}
use Rattle.std.proofs.lemmas.List.{append-nil, map-id, take_more}
use Rattle.std.proofs.lemmas.List.Concat.{flat_map-append}
use Rattle.std.proofs.lemmas.List.Folds.{list_any-append}
use Rattle.std.proofs.lemmas.List.FromFn.{map-range_with_len_more}
use Rattle.std.proofs.lemmas.Slice.Eq.{bytes_eq-Decides}
use Rattle.feed_reader.specs.Faults.{Fields}
use Rattle.feed_reader.specs.Ids.{first_ids, is_known, number_of, stood_before}
use Rattle.feed_reader.specs.Numbered.{noted}
use Rattle.feed_reader.specs.ServiceNotes.{all_noted}
use Rattle.feed_reader.proofs.IdLemmas.{number-push}
use Rattle.feed_reader.proofs.RowLemmas.{all-rows, map-more}

-- a number stays with more ids behind
found-stays : (t : List ℕ → Bool) (xs ys : List (List ℕ)) (s k : ℕ) → position_from t s xs ≡ Some k → position_from t s (xs ++ ys) ≡ Some k
found-stays t [] ys s k h = absurd (cc h)
found-stays t (x ∷ xs) ys s k h = elim (cases_Bool (t x)) [
  | inl here ↦ let is : Some s ≡ Some k = rw here at h in rw here is
  | inr not ↦ let later : position_from t (s + 1) xs ≡ Some k = rw not at h in rw not (found-stays t xs ys (s + 1) k later)
]

pub number-stays : (ids more : List (List ℕ)) (id : List ℕ) (k : ℕ) → number_of ids id ≡ Some k → number_of (ids ++ more) id ≡ Some k
number-stays ids more id k h = found-stays (bytes_eq id) ids more 0 k h

-- a number stays with one more noted, and with many
pub number-noted : (ids : List (List ℕ)) (other id : List ℕ) (k : ℕ) → number_of ids id ≡ Some k → number_of (noted ids other) id ≡ Some k
number-noted ids other id k h = elim (cases_Bool (is_known ids other)) [
  | inl known ↦ rw known h
  | inr new ↦ rw new (number-stays ids (other ∷ []) id k h)
]

pub number-all-noted : (ids more : List (List ℕ)) (id : List ℕ) (k : ℕ) → number_of ids id ≡ Some k → number_of (all_noted ids more) id ≡ Some k
unfolding all_noted
number-all-noted ids [] id k h = h
number-all-noted ids (x ∷ more) id k h = number-all-noted (noted ids x) more id k (number-noted ids x id k h)

-- the number of one that was just appended
pub number-last : (ids : List (List ℕ)) (id : List ℕ) → number_of ids id ≡ None → number_of (ids ++ id ∷ []) id ≡ Some (length ids)
number-last ids id none = let same : bytes_eq id id ≡ true = (bytes_eq-Decides id id).1 refl in number-push ids id id none ∙ rw same refl

-- what is new is appended
pub noted-new : (ids : List (List ℕ)) (id : List ℕ) → number_of ids id ≡ None → noted ids id ≡ ids ++ id ∷ []
noted-new ids id none = rw none refl

-- one more
pub noted-push : (ids xs : List (List ℕ)) (x : List ℕ) → all_noted ids (xs ++ x ∷ []) ≡ noted (all_noted ids xs) x
unfolding all_noted
noted-push ids [] x = refl
noted-push ids (y ∷ ys) x = noted-push (noted ids y) ys x

pub noted-none : (ids : List (List ℕ)) → ids ≡ all_noted ids []
unfolding all_noted
noted-none ids = refl

-- one more row
pub noted-more : (f : Fields → List ℕ) (rows : List Fields) (i : ℕ) (start old new : List (List ℕ)) → i < length rows → old ≡ all_noted start (map f (take i rows)) → new ≡ noted old (f (get_or rows i []))
    → new ≡ all_noted start (map f (take (i + 1) rows))
noted-more f rows i start old new lt before now = now ∙ rw before (sym (ap (all_noted start) (map-more f rows i [] lt) ∙ noted-push start (map f (take i rows)) (f (get_or rows i []))))

-- whether an id is known, by a test of each
known-any : (t : List ℕ → Bool) (s : ℕ) (xs : List (List ℕ)) → is_some (position_from t s xs) ≡ list_any t xs
known-any t s [] = refl
known-any t s (x ∷ xs) = elim (cases_Bool (t x)) [ inl h ↦ rw h refl | inr h ↦ rw h (known-any t (s + 1) xs) ]

or-false : (b : Bool) → (b || false) ≡ b
or-false true = refl
or-false false = refl

or-assoc : (a b d : Bool) → ((a || b) || d) ≡ (a || (b || d))
or-assoc true b d = refl
or-assoc false b d = refl

any-one : (t : List ℕ → Bool) (x : List ℕ) → list_any t (x ∷ []) ≡ t x
any-one t x = elim (cases_Bool (t x)) [ inl h ↦ rw h refl | inr h ↦ rw h refl ]

any-cons : (t : List ℕ → Bool) (x : List ℕ) (xs : List (List ℕ)) → list_any t (x ∷ xs) ≡ (t x || list_any t xs)
any-cons t x xs = elim (cases_Bool (t x)) [ inl h ↦ rw h refl | inr h ↦ rw h refl ]

-- an id is among the noted ones where it was among them or is the new one
any-noted : (id : List ℕ) (ids : List (List ℕ)) (x : List ℕ) → list_any (bytes_eq id) (noted ids x) ≡ (list_any (bytes_eq id) ids || bytes_eq id x)
any-noted id ids x = elim (cases_Bool (is_known ids x)) [
  | inl known ↦ elim (cases_Bool (bytes_eq id x)) [
    | inl same ↦
        let eq : id ≡ x = (bytes_eq-Decides id x).0 same in
        let any : list_any (bytes_eq x) ids ≡ true = sym (known-any (bytes_eq x) 0 ids) ∙ known in
        let here : list_any (bytes_eq id) ids ≡ true = ap (λ (t : List ℕ). list_any (bytes_eq t) ids) eq ∙ any in
        rw (known, same, here) refl
    | inr not ↦ rw (known, not) (sym (or-false (list_any (bytes_eq id) ids)))
  ]
  | inr new ↦ rw new (list_any-append (bytes_eq id) ids (x ∷ []) ∙ ap (λ (b : Bool). list_any (bytes_eq id) ids || b) (any-one (bytes_eq id) x))
]

any-all-noted : (id : List ℕ) (ids xs : List (List ℕ)) → list_any (bytes_eq id) (all_noted ids xs) ≡ (list_any (bytes_eq id) ids || list_any (bytes_eq id) xs)
unfolding all_noted
any-all-noted id ids [] = sym (or-false (list_any (bytes_eq id) ids))
any-all-noted id ids (x ∷ xs) =
    any-all-noted id (noted ids x) xs ∙ ap (λ (b : Bool). b || list_any (bytes_eq id) xs) (any-noted id ids x)
    ∙ or-assoc (list_any (bytes_eq id) ids) (bytes_eq id x) (list_any (bytes_eq id) xs)
    ∙ ap (λ (b : Bool). list_any (bytes_eq id) ids || b) (sym (any-cons (bytes_eq id) x xs))

known-noted : (id : List ℕ) (xs : List (List ℕ)) → is_known (all_noted [] xs) id ≡ is_known xs id
known-noted id xs = known-any (bytes_eq id) 0 (all_noted [] xs) ∙ any-all-noted id [] xs ∙ sym (known-any (bytes_eq id) 0 xs)

choice : (b : Bool) (ids : List (List ℕ)) (x : List ℕ) → ids ++ (if b then [] else x ∷ []) ≡ (if b then ids else ids ++ x ∷ [])
choice true ids x = append-nil ids
choice false ids x = refl

range-more : (i : ℕ) → range_with_len 0 (i + 1) ≡ range_with_len 0 i ++ i ∷ []
range-more i = sym (map-id (range_with_len 0 (i + 1))) ∙ map-range_with_len_more (λ (n : ℕ). n) 0 i i (omega arith) ∙ ap (λ (xs : List ℕ). xs ++ i ∷ []) (map-id (range_with_len 0 i))

-- the new id of a place, if it is one
abbrev new_at : List (List ℕ) → ℕ → List (List ℕ)
new_at xs place = if stood_before xs place then [] else slice_index_or xs place [] ∷ []

firsts-up-to : (xs : List (List ℕ)) (i : ℕ) → i ≤ length xs → flat_map (new_at xs) (range_with_len 0 i) ≡ all_noted [] (take i xs)
unfolding all_noted
firsts-up-to xs zero le = refl
firsts-up-to xs (suc i) le =
    let next : suc i ≡ i + 1 = omega arith in
    let lt : i < length xs = omega (arith, le) in
    let before = firsts-up-to xs i (omega (arith, le)) in
    let one : flat_map (new_at xs) (i ∷ []) ≡ new_at xs i = append-nil (new_at xs i) in
    let left : flat_map (new_at xs) (range_with_len 0 (i + 1)) ≡ all_noted [] (take i xs) ++ new_at xs i
    = ap (flat_map (new_at xs)) (range-more i) ∙ flat_map-append (new_at xs) (range_with_len 0 i) (i ∷ []) ∙ rw (before, one) refl in
    let known = known-noted (slice_index_or xs i []) (take i xs) in
    let stood : new_at xs i ≡ (if is_known (all_noted [] (take i xs)) (slice_index_or xs i []) then [] else slice_index_or xs i [] ∷ [])
    = ap (λ (b : Bool). if b then [] else slice_index_or xs i [] ∷ []) (sym known) in
    let right : all_noted [] (take (i + 1) xs) ≡ noted (all_noted [] (take i xs)) (slice_index_or xs i []) = ap (all_noted []) (take_more xs i [] lt) ∙ noted-push [] (take i xs) (slice_index_or xs i []) in
    let done : flat_map (new_at xs) (range_with_len 0 (i + 1)) ≡ all_noted [] (take (i + 1) xs) = left ∙ ap (λ (rest : List (List ℕ)). all_noted [] (take i xs) ++ rest) stood
    ∙ choice (is_known (all_noted [] (take i xs)) (slice_index_or xs i [])) (all_noted [] (take i xs)) (slice_index_or xs i []) ∙ sym right in
    subst (λ (n : ℕ). flat_map (new_at xs) (range_with_len 0 n) ≡ all_noted [] (take n xs)) (sym next) done

-- the first appearances are what is noted one after the other
pub firsts-noted : (xs : List (List ℕ)) → first_ids xs ≡ all_noted [] xs
firsts-noted xs = firsts-up-to xs (length xs) (omega arith) ∙ ap (all_noted []) (all-rows xs)

-- what is noted in two passes
pub noted-append : (ids xs ys : List (List ℕ)) → all_noted ids (xs ++ ys) ≡ all_noted (all_noted ids xs) ys
unfolding all_noted
noted-append ids [] ys = refl
noted-append ids (x ∷ xs) ys = noted-append (noted ids x) xs ys
