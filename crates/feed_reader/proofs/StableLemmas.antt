-- What a stable sort by a number keeps.
use Rattle.std.proofs.Common.{◌≡◌, ℕ, Bool, true, false, List, [], ◌∷◌, refl, sym, ap, ◌∙◌, inl, inr, arith, is_lt}
use Rattle.std.specs.Prelude.{◌==◌, ◌&&◌, not, filter}
use Rattle.std.specs.Ordering.{nat_cmp}
use Rattle.std.specs.List.Sorted.{IsStableByKey}
use Rattle.std.proofs.lemmas.Bool.{cases_Bool}
use Rattle.std.proofs.lemmas.Bool.Decides.{nat_tests}

-- equal tests keep the same elements
pub filter-same : {A : Type 0} (p q : A → Bool) (xs : List A) → ((x : A) → p x ≡ q x) → filter p xs ≡ filter q xs
filter-same p q [] h = refl
filter-same {A} p q (x ∷ xs) h = elim (cases_Bool (q x)) [
  | inl e ↦ let first : p x ≡ true = h x ∙ e in rw (first, e) (ap (λ (ys : List A). x ∷ ys) (filter-same p q xs h))
  | inr e ↦ let first : p x ≡ false = h x ∙ e in rw (first, e) (filter-same p q xs h)
]

-- numbers tie where they are equal
tie-is : (a b : ℕ) → (not (is_lt (nat_cmp a b)) && not (is_lt (nat_cmp b a))) ≡ (b == a)
tie-is a b = grind (arith, nat_tests)

-- the elements of one key stay in their order
pub kept-by-key : {A : Type 0} (key : A → ℕ) (xs ys : List A) → IsStableByKey key nat_cmp xs ys → (x : A) → filter (λ y. key y == key x) ys ≡ filter (λ y. key y == key x) xs
kept-by-key key xs ys stable x =
    filter-same _ _ ys (λ y. sym (tie-is (key x) (key y))) ∙ stable x ∙ filter-same _ _ xs (λ y. tie-is (key x) (key y))
