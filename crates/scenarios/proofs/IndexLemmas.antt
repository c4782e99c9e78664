-- The number of an id among one more.
use Rattle.std.proofs.Common.{◌≡◌, ℕ, ◌+◌, ◌<◌, ◌≤◌, map, take, get_or, subst, Bool, true, false, List, [], ◌∷◌, ◌++◌, ◌⊎◌, Some, None, length, refl, sym, ap, ◌∙◌, inl, inr, arith, cond}
use Rattle.std.specs.Prelude.{is_some}
use Rattle.std.specs.Borrow.{Bor}
use Rattle.std.specs.List.{position_from}
use Rattle.std.specs.Str.{bytes_eq}
use Rattle.std.specs.Map.{update}
use Rattle.std.specs.BTreeMap.{BTreeMap}
use Rattle.std.proofs.lemmas.Bool.{cases_Bool, false_from_ne_true}
use Rattle.std.proofs.lemmas.List.{get_or-map, length-map, length-take-le, take_more}
use Rattle.std.proofs.lemmas.Slice.Eq.{bytes_eq-Decides}
use Rattle.feed_reader.specs.Ids.{number_of}
use Rattle.scenarios.specs.Index.{IsIndex, number_at}

-- a place among more: the one before, else that of the new one
position-push : (t : List ℕ → Bool) (xs : List (List ℕ)) (x : List ℕ) (s n : ℕ) → s + length xs ≡ n
    → ((k : ℕ) × (position_from t s xs ≡ Some k) × (position_from t s (xs ++ x ∷ []) ≡ Some k)) ⊎ ((position_from t s xs ≡ None) × (position_from t s (xs ++ x ∷ []) ≡ cond (t x) (Some n) None))
position-push t [] x s n e = let at : s ≡ n = omega arith in inr (refl, rw at refl)
position-push t (y ∷ xs) x s n e = elim (cases_Bool (t y)) [
  | inl h ↦ inl (s, rw h refl, rw h refl)
  | inr h ↦ let later = position-push t xs x (s + 1) n (omega arith) in rw h later
]

same-bytes : (xs ys : List ℕ) → bytes_eq xs ys ≡ true → xs ≡ ys
same-bytes xs ys h = (bytes_eq-Decides xs ys).0 h

swap-bytes : (xs ys : List ℕ) → bytes_eq xs ys ≡ bytes_eq ys xs
swap-bytes xs ys = elim (cases_Bool (bytes_eq xs ys)) [
  | inl h ↦ h ∙ sym ((bytes_eq-Decides ys xs).1 (sym (same-bytes xs ys h)))
  | inr h ↦ h ∙ sym (false_from_ne_true _ (λ k. let back = (bytes_eq-Decides xs ys).1 (sym (same-bytes ys xs k)) in absurd (cc (h, back))))
]

-- an id that stood before changes no number
known-push : (ids : List (List ℕ)) (id other : List ℕ) → is_some (number_of ids id) ≡ true → number_of (ids ++ id ∷ []) other ≡ number_of ids other
known-push ids id other known = elim (position-push (bytes_eq other) ids id 0 (length ids) (omega arith)) [
  | inl found ↦ found.2 ∙ sym found.1
  | inr late ↦ elim (cases_Bool (bytes_eq other id)) [
    | inl h ↦
        let same = same-bytes other id h in
        let none : number_of ids id ≡ None = rw same at late.0 in
        let bad : is_some (number_of ids id) ≡ false = ap is_some none in
        absurd (cc (known, bad))
    | inr h ↦ late.1 ∙ rw h (sym late.0)
  ]
]

-- an id that did not stand before gets the next number
fresh-push : (ids : List (List ℕ)) (id other : List ℕ) → is_some (number_of ids id) ≡ false → number_of (ids ++ id ∷ []) other ≡ cond (bytes_eq id other) (Some (length ids)) (number_of ids other)
fresh-push ids id other fresh = elim (cases_Bool (bytes_eq id other)) [
  | inl h ↦
      let same = same-bytes id other h in
      let back : bytes_eq other id ≡ true = swap-bytes other id ∙ h in
      elim (position-push (bytes_eq other) ids id 0 (length ids) (omega arith)) [
        | inl found ↦
            let here : is_some (number_of ids other) ≡ true = ap is_some found.1 in
            let there : is_some (number_of ids other) ≡ false = rw same at fresh in
            absurd (cc (here, there))
        | inr late ↦ rw h (late.1 ∙ rw back refl)
      ]
  | inr h ↦
      let back : bytes_eq other id ≡ false = swap-bytes other id ∙ h in
      elim (position-push (bytes_eq other) ids id 0 (length ids) (omega arith)) [
        | inl found ↦ rw h (found.2 ∙ sym found.1)
        | inr late ↦ rw h (late.1 ∙ rw back (sym late.0))
      ]
]

pub index-known : (ids : List (List ℕ)) (id : List ℕ) (m : BTreeMap (Bor (List ℕ)) ℕ) → IsIndex ids m → is_some (number_at m id) ≡ true → IsIndex (ids ++ id ∷ []) m
index-known ids id m h known =
    let there : is_some (number_of ids id) ≡ true = rw (h.each id) at known in
    record { each = λ other. h.each other ∙ sym (known-push ids id other there) }

pub index-fresh : (ids : List (List ℕ)) (id : List ℕ) (m n : BTreeMap (Bor (List ℕ)) ℕ) (number : ℕ) → IsIndex ids m → is_some (number_at m id) ≡ false → number ≡ length ids
    → ((other : List ℕ) → number_at n other ≡ update bytes_eq (number_at m) id (Some number) other) → IsIndex (ids ++ id ∷ []) n
index-fresh ids id m n number h fresh at put =
    let absent : is_some (number_of ids id) ≡ false = rw (h.each id) at fresh in
    record { each = λ other. put other ∙ ap (cond (bytes_eq id other) (Some number)) (h.each other) ∙ ap (λ (k : ℕ). cond (bytes_eq id other) (Some k) (number_of ids other)) at ∙ sym (fresh-push ids id other absent) }

-- one more id of a list of texts
pub index-more : (xs : List (Bor (List ℕ))) (i : ℕ) (x : Bor (List ℕ)) (m : BTreeMap (Bor (List ℕ)) ℕ) → i < length xs → x ≡ get_or xs i x
    → IsIndex (take i (map (λ id. id.now) xs) ++ x.now ∷ []) m → IsIndex (take (i + 1) (map (λ id. id.now) xs)) m
index-more xs i x m lt at h =
    let texts = map (λ (id : Bor (List ℕ)). id.now) xs in
    let below : i < length texts = rw (length-map xs (λ (id : Bor (List ℕ)). id.now)) lt in
    let last : get_or texts i x.now ≡ x.now = get_or-map (λ (id : Bor (List ℕ)). id.now) xs i x x.now lt ∙ ap (λ (id : Bor (List ℕ)). id.now) (sym at) in
    let parts : take (i + 1) texts ≡ take i texts ++ x.now ∷ [] = take_more texts i x.now below ∙ ap (λ (id : List ℕ). take i texts ++ id ∷ []) last in
    subst (λ (ids : List (List ℕ)). IsIndex ids m) (sym parts) h

pub length-taken : (xs : List (Bor (List ℕ))) (i : ℕ) → i < length xs → i ≡ length (take i (map (λ id. id.now) xs))
length-taken xs i lt =
    let texts = map (λ (id : Bor (List ℕ)). id.now) xs in
    let size : length texts ≡ length xs = length-map xs (λ (id : Bor (List ℕ)). id.now) in
    let within : i ≤ length texts = omega arith in sym (length-take-le i texts within)
