-- In an order of distinct numbers, as many have a place below k as there are numbers, but k at most.
use Rattle.std.proofs.Common.{◌≡◌, ℕ, zero, suc, ◌+◌, ◌<◌, ◌≤◌, Bool, true, false, cond, List, [], ◌∷◌, length, refl, ◌∙◌, arith, inl, inr, zero-add, get_or, ◌-◌, subst}
use Rattle.std.specs.Bool.{nat_lt}
use Rattle.std.specs.List.{count_by, filter, range_with_len}
use Rattle.std.proofs.lemmas.List.Sums.{sum_by-cons, count_by-le-length}
use Rattle.std.proofs.lemmas.Bool.{cases_lt, cases_Bool, lt-ltb, le-ltb}
use Rattle.definitions.specs.SplitLaws.{AreRising}

-- numbers that rise, from one on
pub data IsRising : ℕ → List ℕ → Type 0 where
  none : (s : ℕ) → IsRising s []
  more : (s x : ℕ) (xs : List ℕ) → s ≤ x → IsRising (suc x) xs → IsRising s (x ∷ xs)

-- a strict order that tells apart different numbers
pub record IsOrder (before : ℕ → ℕ → Bool) : Type 0 where
  pub never_both : (a b : ℕ) → before a b ≡ true → before b a ≡ false
  pub one_of : (a b : ℕ) → a < b → before a b ≡ false → before b a ≡ true
  pub chains : (a b c : ℕ) → before a b ≡ true → before b c ≡ true → before a c ≡ true

pub count : {X : Type 0} (p : X → Bool) (x : X) (xs : List X) → count_by p (x ∷ xs) ≡ cond (p x) 1 0 + count_by p xs
count p x xs = sum_by-cons (λ y. cond (p y) 1 0) x xs

count_one : (a b : Bool) → (a ≡ true → b ≡ true) → cond a 1 0 ≤ cond b 1 0
count_one true b h = rw (h refl) (omega arith)
count_one false b h = omega arith

-- where each that passes p passes q, q counts no fewer
pub count_le : (p q : ℕ → Bool) (xs : List ℕ) → ((a : ℕ) → p a ≡ true → q a ≡ true) → count_by p xs ≤ count_by q xs
count_le p q [] h = omega arith
count_le p q (x ∷ xs) h = rw (count p x xs, count q x xs) (
    let rest = count_le p q xs h in
    let here : cond (p x) 1 0 ≤ cond (q x) 1 0 = count_one (p x) (q x) (h x) in
    omega arith)

-- .. and more, where one of the numbers passes q alone
pub count_lt : (p q : ℕ → Bool) (xs : List ℕ) (i : ℕ) → i < length xs → p (get_or xs i 0) ≡ false → q (get_or xs i 0) ≡ true →
    ((a : ℕ) → p a ≡ true → q a ≡ true) → count_by p xs + 1 ≤ count_by q xs
count_lt p q [] i lt fails holds h = absurd (omega arith)
count_lt p q (x ∷ xs) zero lt fails holds h = rw (count p x xs, count q x xs, fails, holds) (let rest = count_le p q xs h in omega arith)
count_lt p q (x ∷ xs) (suc i) lt fails holds h = rw (count p x xs, count q x xs) (
    let rest = count_lt p q xs i (omega arith) fails holds h in
    let here : cond (p x) 1 0 ≤ cond (q x) 1 0 = count_one (p x) (q x) (h x) in
    omega arith)

pub count_same : (p q : ℕ → Bool) (xs : List ℕ) → ((i : ℕ) → i < length xs → p (get_or xs i 0) ≡ q (get_or xs i 0)) → count_by p xs ≡ count_by q xs
count_same p q [] h = refl
count_same p q (x ∷ xs) h =
    let here : p x ≡ q x = h 0 (omega arith) in
    let rest : count_by p xs ≡ count_by q xs = count_same p q xs (λ i lt. h (suc i) (omega arith)) in
    rw (count p x xs, count q x xs, here, rest) refl

pub rising_at : (s : ℕ) (xs : List ℕ) → IsRising s xs → (i : ℕ) → i < length xs → s ≤ get_or xs i 0
rising_at s [] r i lt = absurd (omega arith)
rising_at s (x ∷ xs) (more _ _ _ low r) zero lt = low
rising_at s (x ∷ xs) (more _ _ _ low r) (suc i) lt = let up = rising_at (suc x) xs r i (omega arith) in omega arith

-- a place below k, in a list and behind one more number
low_place : (b : Bool) (n p k : ℕ) → k ≤ p → (b ≡ true → p ≤ n) → nat_lt (cond b 1 0 + n) k ≡ nat_lt n k
low_place true n p k low h = let above = h refl in rw (le-ltb (1 + n) k (omega arith), le-ltb n k (omega arith)) refl
low_place false n p k low h = rw (zero-add n) refl

high_place : (b : Bool) (n p k j : ℕ) → k ≡ j + 1 → p < k → (b ≡ false → n < p) → nat_lt (cond b 1 0 + n) k ≡ nat_lt n j
high_place true n p k j e high h = elim (cases_lt n j) [
  | inl l ↦ rw (lt-ltb (1 + n) k (omega arith), lt-ltb n j l) refl
  | inr g ↦ rw (le-ltb (1 + n) k (omega arith), le-ltb n j g) refl
]
high_place false n p k j e high h = let below = h refl in rw (lt-ltb (0 + n) k (omega arith), lt-ltb n j (omega arith)) refl

pub never_self : (before : ℕ → ℕ → Bool) → IsOrder before → (a : ℕ) → before a a ≡ false
never_self before order a = elim (cases_Bool (before a a)) [ inl holds ↦ order.never_both a a holds | inr fails ↦ fails ]

pub ranked : (before : ℕ → ℕ → Bool) → IsOrder before → (s : ℕ) (xs : List ℕ) → IsRising s xs → (k : ℕ) → k ≤ length xs →
    count_by (λ a. nat_lt (count_by (λ e. before e a) xs) k) xs ≡ k
ranked before order s [] r k le = omega arith
ranked before order s (x ∷ xs) (more _ _ _ low r) k le =
    let place : ℕ → ℕ = λ a. count_by (λ e. before e a) xs in
    let behind : (a : ℕ) → count_by (λ e. before e a) (x ∷ xs) ≡ cond (before x a) 1 0 + place a = λ a. count (λ e. before e a) x xs in
    let first : count_by (λ e. before e x) (x ∷ xs) ≡ place x = behind x ∙ rw (never_self before order x) (zero-add (place x)) in
    let bound : place x ≤ length xs = count_by-le-length (λ e. before e x) xs in
    elim (cases_lt (place x) k) [
      | inl high ↦ (
          let j : ℕ = k - 1 in
          let next : k ≡ j + 1 = omega arith in
          let same : count_by (λ a. nat_lt (count_by (λ e. before e a) (x ∷ xs)) k) xs ≡ count_by (λ a. nat_lt (place a) j) xs =
          count_same _ _ xs (λ i lt. let a = get_or xs i 0 in
          rw (behind a) (high_place (before x a) (place a) (place x) k j next high
          (λ fails. let back : before a x ≡ true = order.one_of x a (rising_at (suc x) xs r i lt) fails in
          let fewer : place a + 1 ≤ place x = count_lt (λ e. before e a) (λ e. before e x) xs i lt (never_self before order a) back (λ e h. order.chains e a x h back) in
          omega arith))) in
          count (λ a. nat_lt (count_by (λ e. before e a) (x ∷ xs)) k) x xs
          ∙ rw (first, lt-ltb (place x) k high, same, ranked before order (suc x) xs r j (omega arith)) (omega arith))
      | inr under ↦ (
          let same : count_by (λ a. nat_lt (count_by (λ e. before e a) (x ∷ xs)) k) xs ≡ count_by (λ a. nat_lt (place a) k) xs =
          count_same _ _ xs (λ i lt. let a = get_or xs i 0 in
          rw (behind a) (low_place (before x a) (place a) (place x) k under
          (λ holds. count_le (λ e. before e x) (λ e. before e a) xs (λ e h. order.chains e x a h holds)))) in
          count (λ a. nat_lt (count_by (λ e. before e a) (x ∷ xs)) k) x xs
          ∙ rw (first, le-ltb (place x) k under, same, ranked before order (suc x) xs r k (omega arith)) (omega arith))
    ]

-- numbers each of which is lower than those after it rise
pub rising_from : (s : ℕ) (xs : List ℕ) → ((i : ℕ) → i < length xs → s ≤ get_or xs i 0) → AreRising xs → IsRising s xs
rising_from s [] low up = none s
rising_from s (x ∷ xs) low up =
    more s x xs (low 0 (omega arith)) (rising_from (suc x) xs
    (λ i lt. let above : x < get_or xs i 0 = up 0 (suc i) (omega arith) (omega arith) in omega arith)
    (λ i j lt within. up (suc i) (suc j) (omega arith) (omega arith)))

-- the numbers of a range rise, and those of it that pass a test
pub rising_range : (a n : ℕ) → IsRising a (range_with_len a n)
rising_range a zero = none a
rising_range a (suc n) =
    let next : a + 1 ≡ suc a = omega arith in
    more a a (range_with_len (a + 1) n) (omega arith) (subst (λ m. IsRising m (range_with_len (a + 1) n)) next (rising_range (a + 1) n))

lower_start : (s t : ℕ) (xs : List ℕ) → s ≤ t → IsRising t xs → IsRising s xs
lower_start s t [] le r = none s
lower_start s t (x ∷ xs) le (more _ _ _ low r) = more s x xs (omega arith) r

pub rising_filter : (p : ℕ → Bool) (s : ℕ) (xs : List ℕ) → IsRising s xs → IsRising s (filter p xs)
rising_filter p s [] r = none s
rising_filter p s (x ∷ xs) (more _ _ _ low r) = choose (p x) (rising_filter p (suc x) xs r)
  where
    choose : (b : Bool) → IsRising (suc x) (filter p xs) → IsRising s (cond b (x ∷ filter p xs) (filter p xs))
    choose true h = more s x (filter p xs) low h
    choose false h = lower_start s (suc x) (filter p xs) (omega arith) h
