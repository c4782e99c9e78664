-- Elements of lists by their places, and numbers from 0 on.
use Rattle.std.proofs.Common.{◌≡◌, ℕ, zero, suc, ◌+◌, ◌<◌, ◌≤◌, Bool, true, false, List, [], ◌∷◌, ◌++◌, ◌⊎◌, Option, Some, None, length, refl, sym, ap, ◌∙◌, inl, inr, arith}
use Rattle.std.specs.Prelude.{◌||◌, All, filter, map, slice_get, sum_by}
use Rattle.std.specs.List.{list_any, range_with_len}
use Rattle.std.proofs.lemmas.Bool.{cases_Bool}
use Rattle.std.proofs.lemmas.List.{append-nil}
use Rattle.std.proofs.lemmas.List.Sums.{sum_by-cons}

pub get-front : {A : Type 0} (xs ys : List A) (i : ℕ) (x : A) → slice_get xs i ≡ Some x → slice_get (xs ++ ys) i ≡ Some x
get-front [] ys i x h = absurd (cc h)
get-front (z ∷ xs) ys zero x h = h
get-front (z ∷ xs) ys (suc i) x h = get-front xs ys i x h

pub get-seam : {A : Type 0} (xs : List A) (y : A) → slice_get (xs ++ y ∷ []) (length xs) ≡ Some y
get-seam [] y = refl
get-seam (x ∷ xs) y = get-seam xs y

pub get-cases : {A : Type 0} (xs : List A) (y : A) (i : ℕ) (x : A) → slice_get (xs ++ y ∷ []) i ≡ Some x → (slice_get xs i ≡ Some x) ⊎ ((i ≡ length xs) × (y ≡ x))
get-cases [] y zero x h = inr (refl, cc)
get-cases [] y (suc i) x h = absurd (cc h)
get-cases (z ∷ xs) y zero x h = inl h
get-cases (z ∷ xs) y (suc i) x h = elim (get-cases xs y i x h) [
  | inl e ↦ inl e
  | inr e ↦ inr (ap suc e.0, e.1)
]

range-more : (a n : ℕ) → range_with_len a (suc n) ≡ range_with_len a n ++ (a + n) ∷ []
range-more a zero = let e : a + 0 ≡ a = omega arith in rw e refl
range-more a (suc n) = let e : a + 1 + n ≡ a + suc n = omega arith in ap (λ (xs : List ℕ). a ∷ xs) (rw (← e) (range-more (a + 1) n))

pub range-next : (n : ℕ) → range_with_len 0 (n + 1) ≡ range_with_len 0 n ++ n ∷ []
range-next n = let e : n + 1 ≡ suc n = omega arith in let z : 0 + n ≡ n = omega arith in rw e (rw z at (range-more 0 n))

-- a test of what a function gives
pub any-map : {A B : Type 0} (p : B → Bool) (f : A → B) (xs : List A) → list_any p (map f xs) ≡ list_any (λ x. p (f x)) xs
any-map p f [] = refl
any-map p f (x ∷ xs) = ap (λ (b : Bool). p (f x) || b) (any-map p f xs)

pub any-same : {A : Type 0} (p q : A → Bool) (xs : List A) → ((x : A) → p x ≡ q x) → list_any p xs ≡ list_any q xs
any-same p q [] h = refl
any-same p q (x ∷ xs) h = rw (h x, any-same p q xs h) refl

pub filter-less : {A : Type 0} (p : A → Bool) (xs : List A) → length (filter p xs) ≤ length xs
filter-less p [] = omega arith
filter-less p (x ∷ xs) = elim (cases_Bool (p x)) [
  | inl e ↦ let rest = filter-less p xs in rw e (omega arith)
  | inr e ↦ let rest = filter-less p xs in rw e (omega arith)
]
