-- A split over the places of a span, where those that fail a test weigh nothing, is the split over those that pass.
use Rattle.std.proofs.Common.{◌≡◌, ℕ, zero, suc, ◌+◌, ◌-◌, ◌*◌, ◌/◌, ◌%◌, ◌<◌, ◌==◌, Bool, true, false, cond, ◌&&◌, ◌||◌, List, refl, sym, ◌∙◌, ap, arith, inl, inr}
use Rattle.std.specs.Bool.{nat_lt}
use Rattle.std.specs.List.{filter, range_with_len, sum_by}
use Rattle.std.proofs.lemmas.Bool.Decides.{nat_tests}
use Rattle.std.proofs.lemmas.Bool.{cases_lt, cases_Bool, lt-ltb, le-ltb}
use Rattle.std.proofs.lemmas.List.Sums.{sum_by-cons}
use Rattle.definitions.specs.Split.{whole_share, remainder, units_left, comes_before, count_before, share}
use Rattle.definitions.proofs.Sums.{sum_by-filter, sum_by-same, range_same}
use Rattle.definitions.proofs.SplitLemmas.{even_share}

-- a range that starts later
pub shifted : (f : ℕ → ℕ) (s n : ℕ) → sum_by f (range_with_len s n) ≡ sum_by (λ k. f (s + k)) (range_with_len 0 n)
shifted f s n = go s 0 n s (omega arith)
  where
    go : (t a n s : ℕ) → t ≡ s + a → sum_by f (range_with_len t n) ≡ sum_by (λ k. f (s + k)) (range_with_len a n)
    go t a zero s e = refl
    go t a (suc n) s e =
        sum_by-cons f t (range_with_len (t + 1) n)
        ∙ ap (λ x. x + sum_by f (range_with_len (t + 1) n)) (ap f e)
        ∙ ap (λ x. f (s + a) + x) (go (t + 1) (a + 1) n s (omega arith))
        ∙ sym (sum_by-cons (λ k. f (s + k)) a (range_with_len (a + 1) n))

-- a sum over those that pass, by places
among : (f : ℕ → ℕ) (p : ℕ → Bool) (s n : ℕ) → sum_by f (filter p (range_with_len s n)) ≡ sum_by (λ k. cond (p (s + k)) (f (s + k)) 0) (range_with_len 0 n)
among f p s n = sum_by-filter f p (range_with_len s n) ∙ shifted (λ a. cond (p a) (f a) 0) s n

-- what places weigh
abbrev pub weighed : (ℕ → Bool) → (ℕ → ℕ) → ℕ → ℕ → ℕ
weighed p w s k = cond (p (s + k)) (w (s + k)) 0

pub weighed_sum : (p : ℕ → Bool) (w : ℕ → ℕ) (s n : ℕ) → sum_by (weighed p w s) (range_with_len 0 n) ≡ sum_by w (filter p (range_with_len s n))
weighed_sum p w s n = sym (among w p s n)

no_units : (units all : ℕ) → 0 < all → (units * 0 / all ≡ 0) × (units * 0 % all ≡ 0)
no_units units all some =
    let none : units * 0 ≡ 0 = omega arith in
    (ap (λ m. m / all) none ∙ zero_div all some, ap (λ m. m % all) none ∙ zero_mod all some)
  where
    zero_div : (m : ℕ) → 0 < m → 0 / m ≡ 0
    zero_div m pos = omega arith

    zero_mod : (m : ℕ) → 0 < m → 0 % m ≡ 0
    zero_mod m pos = omega arith

whole_at : (units all : ℕ) (b : Bool) (w : ℕ) → 0 < all → units * cond b w 0 / all ≡ cond b (units * w / all) 0
whole_at units all true w some = refl
whole_at units all false w some = (no_units units all some).0

rest_at : (units all : ℕ) (b : Bool) (w : ℕ) → 0 < all → units * cond b w 0 % all ≡ cond b (units * w % all) 0
rest_at units all true w some = refl
rest_at units all false w some = (no_units units all some).1

-- whether a place comes before one with a remainder
before_at : (b : Bool) (r t s e k : ℕ) → 0 < t → (nat_lt t (cond b r 0) || (cond b r 0 == t && nat_lt e k)) ≡ (b && (nat_lt t r || (r == t && nat_lt (s + e) (s + k))))
before_at true r t s e k some = elim (cases_lt e k) [
  | inl lt ↦ rw (lt-ltb e k lt, lt-ltb (s + e) (s + k) (omega arith)) refl
  | inr ge ↦ rw (le-ltb e k ge, le-ltb (s + e) (s + k) (omega arith)) refl
]
before_at false r t s e k some = grind (arith, nat_tests)

one_or_none : (b d : Bool) → cond (b && d) 1 0 ≡ cond b (cond d 1 0) zero
one_or_none true d = refl
one_or_none false d = refl

pub share_among : (units : ℕ) (p : ℕ → Bool) (w : ℕ → ℕ) (s n k : ℕ) → k < n → 0 < sum_by w (filter p (range_with_len s n)) →
    share units (weighed p w s) (range_with_len 0 n) k ≡ cond (p (s + k)) (share units w (filter p (range_with_len s n)) (s + k)) 0
share_among units p w s n k lt some =
    let arcs : List ℕ = filter p (range_with_len s n) in
    let places : List ℕ = range_with_len 0 n in
    let all : ℕ = sum_by w arcs in
    let v : ℕ → ℕ = weighed p w s in
    let total : sum_by v places ≡ all = weighed_sum p w s n in
    let some' : 0 < sum_by v places = rw total some in
    let wholes : (e : ℕ) → whole_share units v places e ≡ cond (p (s + e)) (whole_share units w arcs (s + e)) 0 =
    λ e. ap (λ t. units * v e / t) total ∙ whole_at units all (p (s + e)) (w (s + e)) some in
    let rests : (e : ℕ) → remainder units v places e ≡ cond (p (s + e)) (remainder units w arcs (s + e)) 0 =
    λ e. ap (λ t. units * v e % t) total ∙ rest_at units all (p (s + e)) (w (s + e)) some in
    let left : units_left units v places ≡ units_left units w arcs =
    ap (λ t. units - t) (sum_by-same (whole_share units v places) (λ e. cond (p (s + e)) (whole_share units w arcs (s + e)) 0) places wholes ∙ sym (among (whole_share units w arcs) p s n)) in
    elim (cases_Bool (p (s + k))) [
      | inl passes ↦ (
          let whole : whole_share units v places k ≡ whole_share units w arcs (s + k) = wholes k ∙ rw passes refl in
          let rest : remainder units v places k ≡ remainder units w arcs (s + k) = rests k ∙ rw passes refl in
          elim (cases_lt 0 (remainder units w arcs (s + k))) [
            | inl uneven ↦ (
                let place : count_before (remainder units v places) places k ≡ count_before (remainder units w arcs) arcs (s + k) =
                sum_by-same (λ e. cond (comes_before (remainder units v places) e k) 1 0)
                (λ e. cond (p (s + e)) (cond (comes_before (remainder units w arcs) (s + e) (s + k)) 1 0) 0) places
                (λ e. rw (rests e, rest) (ap (λ b. cond b 1 0) (before_at (p (s + e)) (remainder units w arcs (s + e)) (remainder units w arcs (s + k)) s e k uneven)
                ∙ one_or_none (p (s + e)) (comes_before (remainder units w arcs) (s + e) (s + k))))
                ∙ sym (among (λ a. cond (comes_before (remainder units w arcs) a (s + k)) 1 0) p s n) in
                rw (whole, place, left, passes) refl)
            | inr even ↦ (
                let none : remainder units w arcs (s + k) ≡ 0 = omega arith in
                even_share units v places k some' (rest ∙ none) ∙ whole ∙ sym (even_share units w arcs (s + k) some none) ∙ rw passes refl)
          ])
      | inr fails ↦ even_share units v places k some' (rests k ∙ rw fails refl) ∙ wholes k ∙ rw fails refl
    ]

-- weights that agree at the places of a range split alike
pub share_same : (units : ℕ) (v w : ℕ → ℕ) (n : ℕ) → ((k : ℕ) → k < n → v k ≡ w k) → (k : ℕ) → k < n →
    share units v (range_with_len 0 n) k ≡ share units w (range_with_len 0 n) k
share_same units v w n same k lt =
    let places : List ℕ = range_with_len 0 n in
    let total : sum_by v places ≡ sum_by w places = range_same v w 0 n (λ j low high. same j (omega arith)) in
    let wholes : (j : ℕ) → j < n → whole_share units v places j ≡ whole_share units w places j = λ j less. ap (λ t. units * v j / t) total ∙ ap (λ x. units * x / sum_by w places) (same j less) in
    let rests : (j : ℕ) → j < n → remainder units v places j ≡ remainder units w places j = λ j less. ap (λ t. units * v j % t) total ∙ ap (λ x. units * x % sum_by w places) (same j less) in
    let left : units_left units v places ≡ units_left units w places = ap (λ t. units - t) (range_same (whole_share units v places) (whole_share units w places) 0 n (λ j low high. wholes j (omega arith))) in
    let place : count_before (remainder units v places) places k ≡ count_before (remainder units w places) places k =
    range_same (λ e. cond (comes_before (remainder units v places) e k) 1 0) (λ e. cond (comes_before (remainder units w places) e k) 1 0) 0 n
    (λ e low high. rw (rests e (omega arith), rests k lt) refl) in
    rw (wholes k lt, place, left) refl
