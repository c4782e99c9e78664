-- The number of an id, after one more.
use Rattle.std.proofs.Common.{◌≡◌, ℕ, ◌+◌, ◌<◌, Bool, true, false, List, [], ◌∷◌, ◌++◌, ◌⊎◌, Option, Some, None, length, refl, sym, ap, ◌∙◌, inl, inr, arith, cond, IfSome, slice_get, zero, suc}
use Rattle.std.specs.Prelude.{String}
use Rattle.std.specs.List.{position_from}
use Rattle.std.specs.Str.{bytes_eq}
use Rattle.std.specs.Map.{update}
use Rattle.std.specs.BTreeMap.{BTreeMap, get_by_text, IsEmpty}
use Rattle.std.specs.declared.alloc.Global.{Global}
use Rattle.std.proofs.lemmas.Bool.{cases_Bool, false_from_ne_true}
use Rattle.std.proofs.lemmas.List.{length-append}
use Rattle.std.proofs.lemmas.Slice.Eq.{bytes_eq-Decides}
use Rattle.feed_reader.specs.Ids.{number_of}
use Rattle.feed_reader.specs.Numbered.{IsNumbered}

-- a place among more: the one before, else that of the new one
position-push : (t : List ℕ → Bool) (xs : List (List ℕ)) (x : List ℕ) (s n : ℕ) → s + length xs ≡ n
    → ((k : ℕ) × (position_from t s xs ≡ Some k) × (position_from t s (xs ++ x ∷ []) ≡ Some k)) ⊎ ((position_from t s xs ≡ None) × (position_from t s (xs ++ x ∷ []) ≡ cond (t x) (Some n) None))
position-push t [] x s n e = let at : s ≡ n = omega arith in inr (refl, rw at refl)
position-push t (y ∷ xs) x s n e = elim (cases_Bool (t y)) [
  | inl h ↦ inl (s, rw h refl, rw h refl)
  | inr h ↦ let later = position-push t xs x (s + 1) n (omega arith) in rw h later
]

pub same-bytes : (xs ys : List ℕ) → bytes_eq xs ys ≡ true → xs ≡ ys
same-bytes xs ys h = (bytes_eq-Decides xs ys).0 h

swap-bytes : (xs ys : List ℕ) → bytes_eq xs ys ≡ bytes_eq ys xs
swap-bytes xs ys = elim (cases_Bool (bytes_eq xs ys)) [
  | inl h ↦ h ∙ sym ((bytes_eq-Decides ys xs).1 (sym (same-bytes xs ys h)))
  | inr h ↦ h ∙ sym (false_from_ne_true _ (λ k. let back = (bytes_eq-Decides xs ys).1 (sym (same-bytes ys xs k)) in absurd (cc (h, back))))
]

-- the number of an id among one more
pub number-push : (ids : List (List ℕ)) (id other : List ℕ) → number_of ids id ≡ None → number_of (ids ++ id ∷ []) other ≡ cond (bytes_eq id other) (Some (length ids)) (number_of ids other)
number-push ids id other none = elim (cases_Bool (bytes_eq id other)) [
  | inl h ↦
      let same = same-bytes id other h in
      let absent : position_from (bytes_eq other) 0 ids ≡ None = rw same at none in
      let back : bytes_eq other id ≡ true = swap-bytes other id ∙ h in
      elim (position-push (bytes_eq other) ids id 0 (length ids) (omega arith)) [
        | inl found ↦ absurd (cc (absent, found.1))
        | inr late ↦ rw h (late.1 ∙ rw back refl)
      ]
  | inr h ↦
      let back : bytes_eq other id ≡ false = swap-bytes other id ∙ h in
      elim (position-push (bytes_eq other) ids id 0 (length ids) (omega arith)) [
        | inl found ↦ rw h (found.2 ∙ sym found.1)
        | inr late ↦ rw h (late.1 ∙ rw back (sym late.0))
      ]
]

pub numbered-none : (m : BTreeMap (String Global) ℕ) → IsEmpty m → IsNumbered [] m
numbered-none m e = record { each = λ id. rw e refl; once = λ number id there. absurd (cc there); few = omega arith }

-- what stands at a place of ids with one more
get-push : (ids : List (List ℕ)) (id : List ℕ) (number : ℕ) (other : List ℕ) → slice_get (ids ++ id ∷ []) number ≡ Some other
    → (slice_get ids number ≡ Some other) ⊎ ((number ≡ length ids) × (other ≡ id))
get-push [] id zero other there = inr (refl, cc there)
get-push [] id (suc number) other there = absurd (cc there)
get-push (x ∷ ids) id zero other there = inl there
get-push (x ∷ ids) id (suc number) other there = elim (get-push ids id number other there) [
  | inl before ↦ inl before
  | inr last ↦ inr (ap suc last.0, last.1)
]

-- no id stands twice where the last is new
once-push : (ids : List (List ℕ)) (id : List ℕ) → number_of ids id ≡ None
    → ((number : ℕ) (other : List ℕ) → slice_get ids number ≡ Some other → number_of ids other ≡ Some number)
    → (number : ℕ) (other : List ℕ) → slice_get (ids ++ id ∷ []) number ≡ Some other → number_of (ids ++ id ∷ []) other ≡ Some number
once-push ids id none once number other there = elim (get-push ids id number other there) [
  | inl before ↦ elim (cases_Bool (bytes_eq id other)) [
    | inl h ↦ let same = same-bytes id other h in absurd (cc (same, none, once number other before))
    | inr h ↦ number-push ids id other none ∙ rw h (once number other before)
  ]
  | inr last ↦
      let same : bytes_eq id other ≡ true = sym (sym ((bytes_eq-Decides id other).1 (sym last.1))) in
      number-push ids id other none ∙ rw same (ap Some (sym last.0))
]

pub numbered-push : (ids : List (List ℕ)) (id : List ℕ) (m n : BTreeMap (String Global) ℕ) → IsNumbered ids m → number_of ids id ≡ None → length ids < 4294967295
    → ((other : List ℕ) → get_by_text n other ≡ update bytes_eq (get_by_text m) id (Some (length ids)) other) → IsNumbered (ids ++ id ∷ []) n
numbered-push ids id m n h none room put = record {
  each = λ other. put other ∙ ap (cond (bytes_eq id other) (Some (length ids))) (h.each other) ∙ sym (number-push ids id other none);
  once = once-push ids id none h.once;
  few = omega (arith, length-append ids (id ∷ []));
}

-- the same, by what the calls say
pub numbered-put : (ids ids2 : List (List ℕ)) (id key : List ℕ) (number : ℕ) (m n : BTreeMap (String Global) ℕ) → IsNumbered ids m → number_of ids id ≡ None → number < 4294967295 → number ≡ length ids
    → ids2 ≡ ids ++ id ∷ [] → key ≡ id → ((other : List ℕ) → get_by_text n other ≡ update bytes_eq (get_by_text m) key (Some number) other) → IsNumbered ids2 n
numbered-put ids ids2 id key number m n h none room at grown same put =
    let all = numbered-push ids id m n h none (omega arith) (rw (same, at) at put) in
    rw grown all

within-from : (t : List ℕ → Bool) (ids : List (List ℕ)) (s n : ℕ) → s + length ids ≡ n → IfSome (position_from t s ids) (λ k. k < n)
within-from t [] s n e = tt
within-from t (x ∷ ids) s n e = elim (cases_Bool (t x)) [
  | inl h ↦ rw h (omega (arith, e))
  | inr h ↦ rw h (within-from t ids (s + 1) n (omega (arith, e)))
]

-- the number of an id is one of them
pub number-within : (ids : List (List ℕ)) (id : List ℕ) (found : Option ℕ) → found ≡ number_of ids id → IfSome found (λ k. k < length ids)
number-within ids id found is = rw is (within-from (bytes_eq id) ids 0 (length ids) (omega arith))
