-- A row more: what it changes, and what it leaves.
use Rattle.std.proofs.Common.{◌≡◌, ◌≢◌, ◌<◌, ◌+◌, ◌++◌, ◌∷◌, ℕ, Bool, true, false, List, [], Option, Some, None, length, set, refl, sym, ap, ◌∙◌, subst, arith, inl, inr, append-nil, zero-add}
use Rattle.std.specs.Prelude.{◌==◌, filter, find}
use Rattle.std.specs.List.{last_or, position_from}
use Rattle.std.specs.Str.{bytes_eq}
use Rattle.std.proofs.lemmas.Bool.{cases_Bool}
use Rattle.std.proofs.lemmas.Bool.Decides.{nat_tests}
use Rattle.std.proofs.lemmas.List.{get_or-set_other, get_or-set_same, length-set}
use Rattle.std.proofs.lemmas.List.Elements.{filter-append}
use Rattle.std.proofs.lemmas.List.FromFn.{fill_by_all, get_or-map-range_with_len, length-map-range_with_len}
use Rattle.std.proofs.lemmas.Slice.Eq.{bytes_eq-Decides}
use Rattle.gtfs_rows.specs.Fields.{whole_of}
use Rattle.feed_reader.specs.Faults.{Fields}
use Rattle.feed_reader.specs.Ids.{number_of}
use Rattle.scenarios.specs.declared.edit.Edit.{Edit}
use Rattle.scenarios.specs.Edits.{edit_field, edit_named, edits, name_of, target_field, value_field}
use Rattle.scenarios.specs.Scenarios.{for_each, is_any, is_id_of, last_value, rows_at, rows_of}

-- what is found passes the test
find-passes : {X : Type 0} (p : X → Bool) (xs : List X) (x : X) → find p xs ≡ Some x → p x ≡ true
find-passes p [] x h = absurd (cc h)
find-passes p (y ∷ ys) x h = elim (cases_Bool (p y)) [
  | inl h1 ↦ let first : Some y ≡ Some x = rw h1 at h in let same : y ≡ x = cc first in subst (λ z. p z ≡ true) same h1
  | inr h2 ↦ find-passes p ys x (rw h2 at h)
]

-- the edit of a name has that name
pub edit-is : (name : List ℕ) (edit : Edit) → edit_named name ≡ Some edit → name ≡ name_of edit
edit-is name edit h = (bytes_eq-Decides name (name_of edit)).0 (find-passes (λ (e : Edit). bytes_eq name (name_of e)) edits edit h)

-- a place is one of the list
position-below : (t : List ℕ → Bool) (xs : List (List ℕ)) (s k : ℕ) → position_from t s xs ≡ Some k → k < s + length xs
position-below t [] s k h = absurd (cc h)
position-below t (y ∷ ys) s k h = elim (cases_Bool (t y)) [
  | inl h1 ↦ let first : Some s ≡ Some k = rw h1 at h in let same : s ≡ k = cc first in omega arith
  | inr h2 ↦ let later = position-below t ys (s + 1) k (rw h2 at h) in omega arith
]

pub number-below : (ids : List (List ℕ)) (id : List ℕ) (number : ℕ) → number_of ids id ≡ Some number → number < length ids
number-below ids id number h = let below = position-below (bytes_eq id) ids 0 number h in omega arith

-- the last of rows with one more
last-more : {X : Type 0} (o : Option X) (xs : List X) (x : X) → last_or o (xs ++ x ∷ []) ≡ Some x
last-more o [] x = refl
last-more o (y ∷ xs) x = last-more (Some y) xs x

pub value-more : (without value : ℕ) (rows : List Fields) (row : Fields) → whole_of (value_field row) ≡ Some value → last_value without (rows ++ row ∷ []) ≡ value
value-more without value rows row h = rw (last-more None rows row, h) refl

pub any-more : (rows : List Fields) (row : Fields) → is_any (rows ++ row ∷ []) ≡ true
any-more rows row = rw (last-more None rows row) refl

-- a filter of one more, which it keeps or not
filter-kept : {X : Type 0} (p : X → Bool) (xs : List X) (x : X) → p x ≡ true → filter p (xs ++ x ∷ []) ≡ filter p xs ++ x ∷ []
filter-kept p xs x h = filter-append p xs (x ∷ []) ∙ rw h refl

filter-left : {X : Type 0} (p : X → Bool) (xs : List X) (x : X) → p x ≡ false → filter p (xs ++ x ∷ []) ≡ filter p xs
filter-left p xs x h = filter-append p xs (x ∷ []) ∙ rw h (append-nil (filter p xs))

-- the rows of another edit stay, and those of its own are one more
rows-left : (name other : List ℕ) (rows : List Fields) (row : Fields) → edit_field row ≡ name → bytes_eq name other ≡ false → rows_of other (rows ++ row ∷ []) ≡ rows_of other rows
rows-left name other rows row is differs = filter-left (λ (r : Fields). bytes_eq (edit_field r) other) rows row (rw is differs)

rows-kept : (name : List ℕ) (rows : List Fields) (row : Fields) → edit_field row ≡ name → rows_of name (rows ++ row ∷ []) ≡ rows_of name rows ++ row ∷ []
rows-kept name rows row is = filter-kept (λ (r : Fields). bytes_eq (edit_field r) name) rows row ((bytes_eq-Decides (edit_field row) name).1 is)

pub number-left : (name other : List ℕ) (without : ℕ) (rows : List Fields) (row : Fields) → edit_field row ≡ name → bytes_eq name other ≡ false
    → last_value without (rows_of other rows) ≡ last_value without (rows_of other (rows ++ row ∷ []))
number-left name other without rows row is differs = ap (last_value without) (sym (rows-left name other rows row is differs))

pub number-kept : (name : List ℕ) (without value : ℕ) (rows : List Fields) (row : Fields) → edit_field row ≡ name → whole_of (value_field row) ≡ Some value
    → value ≡ last_value without (rows_of name (rows ++ row ∷ []))
number-kept name without value rows row is writes = sym (ap (last_value without) (rows-kept name rows row is) ∙ value-more without value (rows_of name rows) row writes)

pub each-left : {X : Type 0} (val : List Fields → X) (ids : List (List ℕ)) (name other : List ℕ) (rows : List Fields) (row : Fields) → edit_field row ≡ name → bytes_eq name other ≡ false
    → for_each ids (λ n. val (rows_at other ids n rows)) ≡ for_each ids (λ n. val (rows_at other ids n (rows ++ row ∷ [])))
each-left val ids name other rows row is differs =
    ap (λ (found : List Fields). for_each ids (λ n. val (filter (λ (r : Fields). is_id_of ids n (target_field r)) found))) (sym (rows-left name other rows row is differs))

-- the rows of one part, with a row of this part or of another
at-kept : (ids : List (List ℕ)) (name : List ℕ) (rows : List Fields) (row : Fields) (number : ℕ) → edit_field row ≡ name → number_of ids (target_field row) ≡ Some number
    → rows_at name ids number (rows ++ row ∷ []) ≡ rows_at name ids number rows ++ row ∷ []
at-kept ids name rows row number is names =
    let same : (number == number) ≡ true = grind (arith, nat_tests) in
    let test : is_id_of ids number (target_field row) ≡ true = rw names same in
    ap (filter (λ (r : Fields). is_id_of ids number (target_field r))) (rows-kept name rows row is)
    ∙ filter-kept (λ (r : Fields). is_id_of ids number (target_field r)) (rows_of name rows) row test

at-left : (ids : List (List ℕ)) (name : List ℕ) (rows : List Fields) (row : Fields) (number other : ℕ) → edit_field row ≡ name → number_of ids (target_field row) ≡ Some number → other ≢ number
    → rows_at name ids other (rows ++ row ∷ []) ≡ rows_at name ids other rows
at-left ids name rows row number other is names differs =
    let apart : (number == other) ≡ false = grind (arith, nat_tests) in
    let test : is_id_of ids other (target_field row) ≡ false = rw names apart in
    ap (filter (λ (r : Fields). is_id_of ids other (target_field r))) (rows-kept name rows row is)
    ∙ filter-left (λ (r : Fields). is_id_of ids other (target_field r)) (rows_of name rows) row test

-- the values of all parts, of which the row sets one
pub each-kept : {X : Type 0} (val : List Fields → X) (value : X) (ids : List (List ℕ)) (name : List ℕ) (rows : List Fields) (row : Fields) (number : ℕ) → edit_field row ≡ name
    → number_of ids (target_field row) ≡ Some number → ((found : List Fields) → val (found ++ row ∷ []) ≡ value)
    → set (for_each ids (λ n. val (rows_at name ids n rows))) number value ≡ for_each ids (λ n. val (rows_at name ids n (rows ++ row ∷ [])))
each-kept {X} val value ids name rows row number is names takes =
    let old = λ (n : ℕ). val (rows_at name ids n rows) in
    let new = λ (n : ℕ). val (rows_at name ids n (rows ++ row ∷ [])) in
    let size : length (for_each ids old) ≡ length ids = length-map-range_with_len old 0 (length ids) in
    let below : number < length ids = number-below ids (target_field row) number names in
    let lt : number < length (for_each ids old) = omega arith in
    fill_by_all new (set (for_each ids old) number value) (length ids) value (length-set (for_each ids old) number value ∙ size)
    (λ k h. elim (cases_Bool (k == number)) [
      | inl here ↦
          let at : k ≡ number = grind (arith, nat_tests) in
          rw at (get_or-set_same (for_each ids old) number value value lt ∙ sym (ap val (at-kept ids name rows row number is names) ∙ takes (rows_at name ids number rows)))
      | inr there ↦
          let apart : k ≢ number = grind (arith, nat_tests) in
          get_or-set_other (for_each ids old) number k value value apart ∙ get_or-map-range_with_len old 0 (length ids) k k value h (zero-add k)
          ∙ sym (ap val (at-left ids name rows row number k is names apart))
    ])
