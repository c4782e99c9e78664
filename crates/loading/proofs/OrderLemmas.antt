-- The numbers of a range in another order: each stands at one place.
use Rattle.std.proofs.Common.{◌≡◌, ℕ, zero, suc, ◌<◌, ◌≤◌, ◌==◌, Bool, true, false, cond, List, [], ◌∷◌, length, refl, sym, ◌∙◌, arith, inl, inr, get_or, subst}
use Rattle.std.specs.List.{count_by, range_with_len, All, Contains}
use Rattle.std.specs.List.Sorted.{IsPermutation}
use Rattle.std.proofs.lemmas.List.{get_or_default}
use Rattle.std.proofs.lemmas.List.Elements.{Contains-get_or, All-from_get_or}
use Rattle.std.proofs.lemmas.List.FromFn.{get_or-range_with_len, length-range_with_len}
use Rattle.std.proofs.lemmas.List.Sorted.{length_permutation, All-permutation, Contains-permutation, sum_by-IsPermutation}
use Rattle.std.proofs.lemmas.Bool.Decides.{eqb_tells}
use Rattle.std.proofs.lemmas.Bool.{cases_Bool, cases_order, eq-eqb, false≢true}
use Rattle.definitions.proofs.RankLemmas.{IsRising, more, IsOrder, count, rising_range}
use Rattle.loading.specs.Places.{AreApart}

-- ---- each number once

none_equal : (v s : ℕ) (xs : List ℕ) → v < s → IsRising s xs → count_by (λ e. e == v) xs ≡ 0
none_equal v s [] lt r = refl
none_equal v s (x ∷ xs) lt (more _ _ _ low r) = count (λ e. e == v) x xs ∙ elim (eqb_tells x v) [
  | inl w ↦ absurd (let same = w.1 in omega arith)
  | inr w ↦ rw (w.0, none_equal v (suc x) xs (omega arith) r) refl
]

once : (v s : ℕ) (xs : List ℕ) → IsRising s xs → count_by (λ e. e == v) xs ≤ 1
once v s [] r = omega arith
once v s (x ∷ xs) (more _ _ _ low r) = rw (count (λ e. e == v) x xs) (elim (eqb_tells x v) [
  | inl w ↦ rw (w.0, none_equal v (suc x) xs (let same = w.1 in omega arith) r) (omega arith)
  | inr w ↦ rw w.0 (let rest = once v (suc x) xs r in omega arith)
])

there : (v : ℕ) (xs : List ℕ) (k : ℕ) → k < length xs → get_or xs k 0 ≡ v → 1 ≤ count_by (λ e. e == v) xs
there v [] k lt e = absurd (omega arith)
there v (x ∷ xs) zero lt e = rw (count (λ e. e == v) x xs, eq-eqb x v e) (omega arith)
there v (x ∷ xs) (suc k) lt e = rw (count (λ e. e == v) x xs) (let rest = there v xs k (omega arith) e in omega arith)

twice : (v : ℕ) (xs : List ℕ) (j k : ℕ) → j < k → k < length xs → get_or xs j 0 ≡ v → get_or xs k 0 ≡ v → 2 ≤ count_by (λ e. e == v) xs
twice v [] j k lt in' e f = absurd (omega arith)
twice v (x ∷ xs) j zero lt in' e f = absurd (omega arith)
twice v (x ∷ xs) zero (suc k) lt in' e f = rw (count (λ e. e == v) x xs, eq-eqb x v e) (let rest = there v xs k (omega arith) f in omega arith)
twice v (x ∷ xs) (suc j) (suc k) lt in' e f = rw (count (λ e. e == v) x xs) (let rest = twice v xs j k (omega arith) (omega arith) e f in omega arith)

-- what each place of the list keeps
pub record IsOnePlaceEach (xs : List ℕ) : Type 0 where
  pub within : (k : ℕ) → k < length xs → get_or xs k 0 < length xs
  pub apart : AreApart xs

pub one_place_each : (n : ℕ) (xs : List ℕ) → IsPermutation (range_with_len 0 n) xs → IsOnePlaceEach xs
one_place_each n xs perm =
    let long : length xs ≡ n = length_permutation (range_with_len 0 n) xs perm ∙ length-range_with_len 0 n in
    let few : (v : ℕ) → count_by (λ e. e == v) xs ≤ 1 = λ v. rw (sum_by-IsPermutation (λ e. cond (e == v) 1 0) (range_with_len 0 n) xs perm) (once v 0 (range_with_len 0 n) (rising_range 0 n)) in
    let below : All (λ v. v < n) xs = All-permutation (λ v. v < n) (range_with_len 0 n) xs perm
    (All-from_get_or (λ v. v < n) (range_with_len 0 n) 0 (λ i lt. let inside : i < n = omega (arith, length-range_with_len 0 n) in rw (get_or-range_with_len 0 n i 0 inside) (omega arith))) in
    record {
      within = λ k lt. rw long (below k 0 lt);
      apart = λ j k lj lk e. elim (cases_order j k) [
        | inl same ↦ same
        | inr other ↦ elim other [
          | inl lt ↦ absurd (let two = twice (get_or xs k 0) xs j k lt lk e refl in let one = few (get_or xs k 0) in omega arith)
          | inr gt ↦ absurd (let two = twice (get_or xs k 0) xs k j gt lj refl e in let one = few (get_or xs k 0) in omega arith)
        ]
      ];
    }

-- ---- at the front

-- a test that the first k of a list pass, and no other, counts k
pub count_front : (p : ℕ → Bool) (xs : List ℕ) (k : ℕ) → k ≤ length xs → ((j : ℕ) → j < k → p (get_or xs j 0) ≡ true) →
    ((j : ℕ) → k ≤ j → j < length xs → p (get_or xs j 0) ≡ false) → count_by p xs ≡ k
count_front p [] k le front back = omega arith
count_front p (x ∷ xs) zero le front back =
    count p x xs ∙ rw (back 0 (omega arith) (omega arith), count_front p xs zero (omega arith) (λ j lt. absurd (omega arith)) (λ j low lt. back (suc j) (omega arith) (omega arith))) refl
count_front p (x ∷ xs) (suc k) le front back =
    count p x xs ∙ rw (front 0 (omega arith), count_front p xs k (omega arith) (λ j lt. front (suc j) (omega arith)) (λ j low lt. back (suc j) (omega arith) (omega arith))) (omega arith)

-- of two numbers that differ, one comes before the other
pub either_way : (before : ℕ → ℕ → Bool) → IsOrder before → (a b : ℕ) → (a ≡ b → ⊥) → before b a ≡ false → before a b ≡ true
either_way before order a b differ h = elim (cases_order a b) [
  | inl same ↦ absurd (differ same)
  | inr other ↦ elim other [
    | inl lt ↦ elim (cases_Bool (before a b)) [ inl t ↦ t | inr f ↦ absurd (let g = order.one_of a b lt f in false≢true (sym h ∙ g)) ]
    | inr gt ↦ order.one_of b a gt h
  ]
]

-- each number of the range stands somewhere
pub placed : (n : ℕ) (xs : List ℕ) → IsPermutation (range_with_len 0 n) xs → (a : ℕ) → a < n → (k : ℕ) × (k < length xs) × (get_or xs k 0 ≡ a)
placed n xs perm a lt =
    let inside : a < length (range_with_len 0 n) = rw (length-range_with_len 0 n) lt in
    let named : get_or (range_with_len 0 n) a 0 ≡ a = get_or-range_with_len 0 n a 0 lt ∙ omega arith in
    let here : Contains (range_with_len 0 n) a = subst (λ v. Contains (range_with_len 0 n) v) named (Contains-get_or (range_with_len 0 n) a 0 inside) in
    let w : Contains xs a = Contains-permutation (range_with_len 0 n) xs a perm here in
    (w.0, w.1, get_or_default xs w.0 0 a w.1 ∙ w.2)
