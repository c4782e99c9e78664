-- Ids and their numbers, after one more.
use Rattle.std.proofs.Common.{◌≡◌, ℕ, zero, suc, ◌+◌, ◌<◌, ◌≤◌, Bool, true, false, List, [], ◌∷◌, ◌++◌, ◌⊎◌, Option, Some, None, length, take, get_or, refl, sym, ap, ◌∙◌, inl, inr, arith, cond, IfSome}
use Rattle.std.specs.Prelude.{String, is_some, flat_map, if◌then◌else◌, slice_index_or, unwrap_or}
use Rattle.std.specs.List.{position_from, range_with_len}
use Rattle.std.specs.Str.{bytes_eq}
use Rattle.std.specs.Map.{update}
use Rattle.std.specs.BTreeMap.{BTreeMap, get_by_text, IsEmpty}
use Rattle.std.specs.declared.alloc.Global.{Global}
use Rattle.std.proofs.lemmas.Bool.{cases_Bool, false_from_ne_true}
use Rattle.std.proofs.lemmas.List.{append-nil, length-take, take-take, take_more, get_or-take}
use Rattle.std.proofs.lemmas.Slice.Eq.{bytes_eq-Decides}
use Rattle.feed_reader.specs.Ids.{first_ids, is_known, number_of, stood_before}
use Rattle.feed_reader.specs.Numbered.{noted}
use Rattle.demand.specs.Numbering.{IsNumbering}

-- a place among more: the one before, else that of the new one
position-push : (t : List ℕ → Bool) (xs : List (List ℕ)) (x : List ℕ) (s n : ℕ) → s + length xs ≡ n
    → ((k : ℕ) × (position_from t s xs ≡ Some k) × (position_from t s (xs ++ x ∷ []) ≡ Some k)) ⊎ ((position_from t s xs ≡ None) × (position_from t s (xs ++ x ∷ []) ≡ cond (t x) (Some n) None))
position-push t [] x s n e = let at : s ≡ n = omega arith in inr (refl, rw at refl)
position-push t (y ∷ xs) x s n e = elim (cases_Bool (t y)) [
  | inl h ↦ inl (s, rw h refl, rw h refl)
  | inr h ↦ let later = position-push t xs x (s + 1) n (omega arith) in rw h later
]

pub same-bytes : (xs ys : List ℕ) → bytes_eq xs ys ≡ true → xs ≡ ys
same-bytes xs ys h = (bytes_eq-Decides xs ys).0 h

swap-bytes : (xs ys : List ℕ) → bytes_eq xs ys ≡ bytes_eq ys xs
swap-bytes xs ys = elim (cases_Bool (bytes_eq xs ys)) [
  | inl h ↦ h ∙ sym ((bytes_eq-Decides ys xs).1 (sym (same-bytes xs ys h)))
  | inr h ↦ h ∙ sym (false_from_ne_true _ (λ k. let back = (bytes_eq-Decides xs ys).1 (sym (same-bytes ys xs k)) in absurd (cc (h, back))))
]

-- the number of an id among one more: the one before, else that of the new one
pub number-push : (ids : List (List ℕ)) (id other : List ℕ) → number_of ids id ≡ None → number_of (ids ++ id ∷ []) other ≡ cond (bytes_eq id other) (Some (length ids)) (number_of ids other)
number-push ids id other none = elim (cases_Bool (bytes_eq id other)) [
  | inl h ↦
      let same = same-bytes id other h in
      let absent : position_from (bytes_eq other) 0 ids ≡ None = rw same at none in
      let back : bytes_eq other id ≡ true = swap-bytes other id ∙ h in
      elim (position-push (bytes_eq other) ids id 0 (length ids) (omega arith)) [
        | inl found ↦ absurd (cc (absent, found.1))
        | inr late ↦ rw h (late.1 ∙ rw back refl)
      ]
  | inr h ↦
      let back : bytes_eq other id ≡ false = swap-bytes other id ∙ h in
      elim (position-push (bytes_eq other) ids id 0 (length ids) (omega arith)) [
        | inl found ↦ rw h (found.2 ∙ sym found.1)
        | inr late ↦ rw h (late.1 ∙ rw back (sym late.0))
      ]
]

-- an id that is there already changes no number
pub number-again : (ids : List (List ℕ)) (id other : List ℕ) → is_some (number_of ids id) ≡ true → number_of (ids ++ id ∷ []) other ≡ number_of ids other
number-again ids id other known = elim (position-push (bytes_eq other) ids id 0 (length ids) (omega arith)) [
  | inl found ↦ found.2 ∙ sym found.1
  | inr late ↦ elim (cases_Bool (bytes_eq other id)) [
    | inl h ↦
        let same = same-bytes other id h in
        let absent : number_of ids id ≡ None = rw same at late.0 in
        let none : is_some (number_of ids id) ≡ false = rw absent refl in
        absurd (cc (known, none))
    | inr h ↦ late.1 ∙ rw h (sym late.0)
  ]
]

pub numbering-again : (ids : List (List ℕ)) (id : List ℕ) (m : BTreeMap (String Global) ℕ) → IsNumbering ids m → is_some (get_by_text m id) ≡ true → IsNumbering (ids ++ id ∷ []) m
numbering-again ids id m h known = record { each = λ other. h.each other ∙ sym (number-again ids id other (rw (h.each id) at known)) }

pub numbering-put : (ids : List (List ℕ)) (id key : List ℕ) (number : ℕ) (m n : BTreeMap (String Global) ℕ) → IsNumbering ids m → is_some (get_by_text m id) ≡ false → length ids ≡ number
    → key ≡ id → ((other : List ℕ) → get_by_text n other ≡ update bytes_eq (get_by_text m) key (Some number) other) → IsNumbering (ids ++ id ∷ []) n
numbering-put ids id key number m n h new size same put =
    let absent : number_of ids id ≡ None = none-from (number_of ids id) (rw (h.each id) at new) in
    let here : (other : List ℕ) → get_by_text n other ≡ update bytes_eq (get_by_text m) id (Some (length ids)) other = rw (same, ← size) at put in
    record { each = λ other. here other ∙ ap (cond (bytes_eq id other) (Some (length ids))) (h.each other) ∙ sym (number-push ids id other absent) }
  where
    none-from : (found : Option ℕ) → is_some found ≡ false → found ≡ None
    none-from None e = refl
    none-from (Some k) e = absurd (cc e)

within-from : (t : List ℕ → Bool) (ids : List (List ℕ)) (s n : ℕ) → s + length ids ≡ n → IfSome (position_from t s ids) (λ k. k < n)
within-from t [] s n e = tt
within-from t (x ∷ ids) s n e = elim (cases_Bool (t x)) [
  | inl h ↦ rw h (omega (arith, e))
  | inr h ↦ rw h (within-from t ids (s + 1) n (omega (arith, e)))
]

-- the number of an id is one of them
pub number-within : (ids : List (List ℕ)) (id : List ℕ) (found : Option ℕ) → found ≡ number_of ids id → IfSome found (λ k. k < length ids)
number-within ids id found is = rw is (within-from (bytes_eq id) ids 0 (length ids) (omega arith))

-- the number of a known id, or any other number in its place
pub known-within : (ids : List (List ℕ)) (id : List ℕ) → is_known ids id ≡ true → unwrap_or (number_of ids id) 0 < length ids
known-within ids id known = taken (number_of ids id) known (number-within ids id (number_of ids id) refl)
  where
    taken : (found : Option ℕ) → is_some found ≡ true → IfSome found (λ k. k < length ids) → unwrap_or found 0 < length ids
    taken None e h = absurd (cc e)
    taken (Some k) e h = h

-- the id of a number is the one that was looked for
found-from : (id : List ℕ) (ids : List (List ℕ)) (s n : ℕ) (d : List ℕ) → position_from (bytes_eq id) s ids ≡ Some n → (k : ℕ) × (s + k ≡ n) × (get_or ids k d ≡ id)
found-from id [] s n d h = absurd (cc h)
found-from id (x ∷ ids) s n d h = elim (cases_Bool (bytes_eq id x)) [
  | inl here ↦
      let is : Some s ≡ Some n = rw here at h in
      let at : s ≡ n = cc is in
      (0, omega arith, sym ((bytes_eq-Decides id x).0 here))
  | inr not ↦
      let later = found-from id ids (s + 1) n d (rw not at h) in
      (suc later.0, omega (arith, later.1), later.2)
]

pub number-found : (ids : List (List ℕ)) (id : List ℕ) (n : ℕ) (d : List ℕ) → number_of ids id ≡ Some n → get_or ids n d ≡ id
number-found ids id n d h = let found = found-from id ids 0 n d h in let same : found.0 ≡ n = omega (arith, found.1) in rw (← same) found.2

-- an id knows itself
self-from : (ids : List (List ℕ)) (k s : ℕ) (d : List ℕ) → k < length ids → is_some (position_from (bytes_eq (get_or ids k d)) s ids) ≡ true
self-from [] k s d lt = absurd (omega arith)
self-from (x ∷ ids) zero s d lt = let same : bytes_eq x x ≡ true = (bytes_eq-Decides x x).1 refl in rw same refl
self-from (x ∷ ids) (suc k) s d lt = elim (cases_Bool (bytes_eq (get_or ids k d) x)) [
  | inl h ↦ rw h refl
  | inr h ↦ rw h (self-from ids k (s + 1) d (omega arith))
]

pub known-self : (ids : List (List ℕ)) (k : ℕ) (d : List ℕ) → k < length ids → is_known ids (get_or ids k d) ≡ true
known-self ids k d lt = self-from ids k 0 d lt
