-- Lists in the order of a key.
use Rattle.std.proofs.Common.{◌≡◌, ◌≢◌, ℕ, zero, suc, ◌+◌, ◌<◌, ◌≤◌, ◌==◌, Bool, true, false, List, [], ◌∷◌, ◌++◌, refl, sym, ap, ◌∙◌, inl, inr, arith}
use Rattle.std.specs.Prelude.{All, filter, flat_map, nat_lt, ◌&&◌, if◌then◌else◌}
use Rattle.std.specs.List.{AllByRecursion, range_with_len}
use Rattle.std.specs.List.Sorted.{IsNonDecreasingBy}
use Rattle.std.proofs.lemmas.Bool.{cases_Bool, cases_eq, ne_eqb}
use Rattle.std.proofs.lemmas.Bool.Decides.{nat_tests}
use Rattle.std.proofs.lemmas.List.{append-nil}
use Rattle.std.proofs.lemmas.List.Elements.{filter-append, recursion_from_All}
use Rattle.feed_reader.proofs.OrderLemmas.{From, Rises, from-less, none-below, rises-index}
use Rattle.network.specs.Ways.{by_key}

-- ---- tests and lists of lists

-- a test after another
pub filter-twice : {A : Type 0} (p q : A → Bool) (xs : List A) → filter p (filter q xs) ≡ filter (λ x. p x && q x) xs
filter-twice p q [] = refl
filter-twice {A} p q (x ∷ xs) = elim (cases_Bool (q x)) [
  | inl e ↦ elim (cases_Bool (p x)) [
    | inl f ↦ rw (e, f) (ap (λ (ys : List A). x ∷ ys) (filter-twice p q xs))
    | inr f ↦ rw (e, f) (filter-twice p q xs)
  ]
  | inr e ↦ elim (cases_Bool (p x)) [
    | inl f ↦ rw (e, f) (filter-twice p q xs)
    | inr f ↦ rw (e, f) (filter-twice p q xs)
  ]
]

pub filter-flat : {A B : Type 0} (p : B → Bool) (f : A → List B) (xs : List A) → filter p (flat_map f xs) ≡ flat_map (λ x. filter p (f x)) xs
filter-flat p f [] = refl
filter-flat {A} {B} p f (x ∷ xs) = filter-append p (f x) (flat_map f xs) ∙ ap (λ (ys : List B). filter p (f x) ++ ys) (filter-flat p f xs)

pub flat-filter : {A B : Type 0} (p : A → Bool) (f : A → List B) (xs : List A) → flat_map f (filter p xs) ≡ flat_map (λ x. if p x then f x else []) xs
flat-filter p f [] = refl
flat-filter {A} {B} p f (x ∷ xs) = elim (cases_Bool (p x)) [
  | inl e ↦ rw e (ap (λ (ys : List B). f x ++ ys) (flat-filter p f xs))
  | inr e ↦ rw e (flat-filter p f xs)
]

-- lists that agree on a range
pub flat-range : {A : Type 0} (f g : ℕ → List A) (a n : ℕ) → ((i : ℕ) → a ≤ i → i < a + n → f i ≡ g i) → flat_map f (range_with_len a n) ≡ flat_map g (range_with_len a n)
flat-range f g a zero same = refl
flat-range {A} f g a (suc n) same =
    let first : f a ≡ g a = same a (omega arith) (omega arith) in
    let rest : flat_map f (range_with_len (a + 1) n) ≡ flat_map g (range_with_len (a + 1) n) = flat-range f g (a + 1) n (λ i low high. same i (omega arith) (omega arith)) in
    rw (first, rest) refl

flat-none : {A : Type 0} (f : ℕ → List A) (k a n : ℕ) → k < a → ((j : ℕ) → j ≢ k → f j ≡ []) → flat_map f (range_with_len a n) ≡ []
flat-none f k a zero lt none = refl
flat-none f k a (suc n) lt none = rw (none a (omega arith)) (flat-none f k (a + 1) n (omega arith) none)

-- of lists of which one alone is not empty that one is left
pub pick : {A : Type 0} (f : ℕ → List A) (k a n : ℕ) → a ≤ k → k < a + n → ((j : ℕ) → j ≢ k → f j ≡ []) → flat_map f (range_with_len a n) ≡ f k
pick f k a zero low high none = absurd (omega arith)
pick {A} f k a (suc n) low high none = elim (cases_eq a k) [
  | inl e ↦ ap (λ (ys : List A). f a ++ ys) (flat-none f k (a + 1) n (omega arith) none) ∙ append-nil (f a) ∙ ap f e
  | inr ne ↦ rw (none a ne) (pick f k (a + 1) n (omega (arith, ne)) (omega arith) none)
]

-- ---- one key

apart : {A : Type 0} (key : A → ℕ) (j k : ℕ) (xs : List A) → j ≢ k → filter (λ x. key x == k) (filter (λ x. key x == j) xs) ≡ []
apart key j k [] ne = refl
apart key j k (x ∷ xs) ne = elim (cases_Bool (key x == j)) [
  | inl e ↦
      let same : key x ≡ j = grind (arith, nat_tests) in
      let other : (key x == k) ≡ false = ne_eqb _ _ (λ at. ne (sym same ∙ at)) in
      rw (e, other) (apart key j k xs ne)
  | inr e ↦ rw e (apart key j k xs ne)
]

again : {A : Type 0} (p : A → Bool) (xs : List A) → filter p (filter p xs) ≡ filter p xs
again p [] = refl
again {A} p (x ∷ xs) = elim (cases_Bool (p x)) [
  | inl e ↦ rw (e, e) (ap (λ (ys : List A). x ∷ ys) (again p xs))
  | inr e ↦ rw e (again p xs)
]

-- the items of a key are the same in the order of the keys
pub filter-by_key : {A : Type 0} (key : A → ℕ) (n k : ℕ) (xs : List A) → k < n → filter (λ x. key x == k) (by_key key n xs) ≡ filter (λ x. key x == k) xs
filter-by_key key n k xs lt =
    filter-flat (λ x. key x == k) (λ j. filter (λ x. key x == j) xs) (range_with_len 0 n)
    ∙ pick (λ j. filter (λ x. key x == k) (filter (λ x. key x == j) xs)) k 0 n (omega arith) (omega arith) (λ j ne. apart key j k xs ne)
    ∙ again (λ x. key x == k) xs

-- items in the order of their keys stay as they stand
pub by_key-twice : {A : Type 0} (key : A → ℕ) (n : ℕ) (xs : List A) → by_key key n (by_key key n xs) ≡ by_key key n xs
by_key-twice key n xs = flat-range (λ k. filter (λ x. key x == k) (by_key key n xs)) (λ k. filter (λ x. key x == k) xs) 0 n (λ k low lt. filter-by_key key n k xs (omega arith))

-- ---- a stable sort

-- the items of later keys
abbrev later : {A : Type 0} → (A → ℕ) → ℕ → List A → List A
later key a ys = filter (λ y. nat_lt a (key y)) ys

split : {A : Type 0} (key : A → ℕ) (a : ℕ) (ys : List A) → Rises key ys → From key a ys → filter (λ y. key y == a) ys ++ later key a ys ≡ ys
split key a [] up low = refl
split {A} key a (y ∷ ys) up low =
    let rest = split key a ys up.1 (from-less key a (key y) ys low.0 up.0) in
    elim (cases_Bool (key y == a)) [
      | inl e ↦
          let same : nat_lt a (key y) ≡ false = grind (arith, nat_tests) in
          rw (e, same) (ap (λ (zs : List A). y ∷ zs) rest)
      | inr e ↦
          let least = low.0 in
          let above : a < key y = grind (arith, nat_tests) in
          let test : nat_lt a (key y) ≡ true = grind (arith, nat_tests) in
          let none : filter (λ z. key z == a) ys ≡ [] = none-below key a (key y) ys above up.0 in
          let whole : later key a ys ≡ ys = rw none at rest in
          rw (e, test, none, whole) refl
    ]

later-kept : {A : Type 0} (key : A → ℕ) (a k : ℕ) (ys : List A) → a < k → filter (λ y. key y == k) (later key a ys) ≡ filter (λ y. key y == k) ys
later-kept key a k [] lt = refl
later-kept {A} key a k (y ∷ ys) lt = elim (cases_Bool (nat_lt a (key y))) [
  | inl e ↦ elim (cases_Bool (key y == k)) [
    | inl d ↦ rw (e, d) (ap (λ (zs : List A). y ∷ zs) (later-kept key a k ys lt))
    | inr d ↦ rw (e, d) (later-kept key a k ys lt)
  ]
  | inr e ↦
      let near : key y ≤ a = grind (arith, nat_tests) in
      let differs : (key y == k) ≡ false = ne_eqb _ _ (λ at. absurd (omega arith)) in
      rw (e, differs) (later-kept key a k ys lt)
]

from-filter : {A : Type 0} (key : A → ℕ) (n : ℕ) (p : A → Bool) (ys : List A) → From key n ys → From key n (filter p ys)
from-filter key n p [] low = tt
from-filter key n p (y ∷ ys) low = elim (cases_Bool (p y)) [
  | inl e ↦ rw e (low.0, from-filter key n p ys low.1)
  | inr e ↦ rw e (from-filter key n p ys low.1)
]

rises-filter : {A : Type 0} (key : A → ℕ) (p : A → Bool) (ys : List A) → Rises key ys → Rises key (filter p ys)
rises-filter key p [] up = tt
rises-filter key p (y ∷ ys) up = elim (cases_Bool (p y)) [
  | inl e ↦ rw e (from-filter key (key y) p ys up.0, rises-filter key p ys up.1)
  | inr e ↦ rw e (rises-filter key p ys up.1)
]

later-from : {A : Type 0} (key : A → ℕ) (a : ℕ) (ys : List A) → From key (a + 1) (later key a ys)
later-from key a [] = tt
later-from key a (y ∷ ys) = elim (cases_Bool (nat_lt a (key y))) [
  | inl e ↦ let far : a + 1 ≤ key y = grind (arith, nat_tests) in rw e (far, later-from key a ys)
  | inr e ↦ rw e (later-from key a ys)
]

below-filter : {A : Type 0} (key : A → ℕ) (m n : ℕ) (p : A → Bool) (ys : List A) → m ≡ n → AllByRecursion (λ y. key y < m) ys → AllByRecursion (λ y. key y < n) (filter p ys)
below-filter key m n p [] same below = tt
below-filter key m n p (y ∷ ys) same below = elim (cases_Bool (p y)) [
  | inl e ↦ let lt = below.0 in rw e (omega arith, below-filter key m n p ys same below.1)
  | inr e ↦ rw e (below-filter key m n p ys same below.1)
]

gathered : {A : Type 0} (key : A → ℕ) (m a : ℕ) (ys : List A) → Rises key ys → From key a ys → AllByRecursion (λ y. key y < a + m) ys
    → flat_map (λ k. filter (λ y. key y == k) ys) (range_with_len a m) ≡ ys
gathered key zero a [] up low below = refl
gathered key zero a (y ∷ ys) up low below = let least = low.0 in let most = below.0 in absurd (omega arith)
gathered {A} key (suc m) a ys up low below =
    let size : a + suc m ≡ a + 1 + m = omega arith in
    let rest = gathered key m (a + 1) (later key a ys) (rises-filter key (λ y. nat_lt a (key y)) ys up) (later-from key a ys) (below-filter key (a + suc m) (a + 1 + m) (λ y. nat_lt a (key y)) ys size below) in
    let same = flat-range (λ k. filter (λ y. key y == k) ys) (λ k. filter (λ y. key y == k) (later key a ys)) (a + 1) m (λ k low_k high. sym (later-kept key a k ys (omega arith))) in
    ap (λ (zs : List A). filter (λ y. key y == a) ys ++ zs) (same ∙ rest) ∙ split key a ys up low

from-zero : {A : Type 0} (key : A → ℕ) (ys : List A) → From key 0 ys
from-zero key [] = tt
from-zero key (y ∷ ys) = (omega arith, from-zero key ys)

-- what a stable sort gives
pub sorted-by_key : {A : Type 0} (key : A → ℕ) (n : ℕ) (xs ys : List A) → IsNonDecreasingBy key ys → ((s : ℕ) → filter (λ y. key y == s) ys ≡ filter (λ y. key y == s) xs)
    → All (λ y. key y < n) ys → ys ≡ by_key key n xs
sorted-by_key key n xs ys up kept below =
    sym (gathered key n 0 ys (rises-index key ys up) (from-zero key ys) (recursion_from_All (λ y. key y < 0 + n) ys (λ k d lt. let low = below k d lt in omega arith)))
    ∙ flat-range (λ k. filter (λ y. key y == k) ys) (λ k. filter (λ y. key y == k) xs) 0 n (λ k low lt. kept k)
