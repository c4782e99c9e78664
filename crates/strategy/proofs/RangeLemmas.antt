-- The first of a range that passes a test, and sums over those that pass.
use Rattle.std.proofs.Common.{◌≡◌, ℕ, zero, suc, ◌+◌, ◌<◌, ◌≤◌, Bool, true, false, cond, [], ◌∷◌, ◌++◌, length, None, Some, refl, sym, ◌∙◌, ap, arith, ◌-◌}
use Rattle.std.specs.List.{filter, range_with_len, sum_by}
use Rattle.std.proofs.lemmas.List.{length-append}
use Rattle.std.proofs.lemmas.List.Sums.{sum_by-append}
use Rattle.std.proofs.lemmas.List.Elements.{filter-append}
use Rattle.definitions.proofs.Sums.{range_more}
use Rattle.strategy.specs.First.{first_of}

filter_none : (p : ℕ → Bool) (s n : ℕ) → ((a : ℕ) → s ≤ a → a < s + n → p a ≡ false) → filter p (range_with_len s n) ≡ []
filter_none p s zero h = refl
filter_none p s (suc n) h = rw (h s (omega arith) (omega arith)) (filter_none p (s + 1) n (λ a low high. h a (omega arith) (omega arith)))

-- the first that passes
pub found : (p : ℕ → Bool) (s n k : ℕ) → k < n → ((j : ℕ) → j < k → p (s + j) ≡ false) → p (s + k) ≡ true →
    first_of (filter p (range_with_len s n)) ≡ Some (s + k)
found p s zero k lt before here = absurd (omega arith)
found p s (suc n) zero lt before here =
    let e : s + zero ≡ s = omega arith in
    let at : p s ≡ true = ap p (sym e) ∙ here in
    rw (at, e) refl
found p s (suc n) (suc k) lt before here =
    let start : p s ≡ false = ap p (let z : s ≡ s + 0 = omega arith in z) ∙ before 0 (omega arith) in
    let e : s + 1 + k ≡ s + suc k = omega arith in
    rw start (found p (s + 1) n k (omega arith)
    (λ j less. ap p (let z : s + 1 + j ≡ s + suc j = omega arith in z) ∙ before (suc j) (omega arith)) (ap p e ∙ here) ∙ ap Some e)

-- where none passes
pub not_found : (p : ℕ → Bool) (s n : ℕ) → ((j : ℕ) → j < n → p (s + j) ≡ false) → first_of (filter p (range_with_len s n)) ≡ None
not_found p s n h = ap first_of (filter_none p s n (λ a low high.
    let j : ℕ = a - s in
    let e : a ≡ s + j = omega arith in
    ap p e ∙ h j (omega arith)))

-- one more number of a range
one_more : (p : ℕ → Bool) (s k : ℕ) → filter p (range_with_len s (k + 1)) ≡ filter p (range_with_len s k) ++ filter p ((s + k) ∷ [])
one_more p s k = ap (filter p) (range_more s k) ∙ filter-append p (range_with_len s k) ((s + k) ∷ [])

single : (f : ℕ → ℕ) (b : Bool) (x : ℕ) → sum_by f (cond b (x ∷ []) []) ≡ cond b (f x) 0
single f true x = omega arith
single f false x = refl

single_length : (b : Bool) (x : ℕ) → length (cond b (x ∷ []) []) ≡ cond b 1 0
single_length true x = refl
single_length false x = refl

-- one more term of a sum over those that pass
pub sum_one_more : (f : ℕ → ℕ) (p : ℕ → Bool) (s k : ℕ) →
    sum_by f (filter p (range_with_len s (k + 1))) ≡ sum_by f (filter p (range_with_len s k)) + cond (p (s + k)) (f (s + k)) 0
sum_one_more f p s k = ap (sum_by f) (one_more p s k) ∙ sum_by-append f (filter p (range_with_len s k)) (filter p ((s + k) ∷ []))
    ∙ ap (λ t. sum_by f (filter p (range_with_len s k)) + t) (single f (p (s + k)) (s + k))

-- one more of those that pass
pub length_one_more : (p : ℕ → Bool) (s k : ℕ) →
    length (filter p (range_with_len s (k + 1))) ≡ length (filter p (range_with_len s k)) + cond (p (s + k)) 1 0
length_one_more p s k = ap length (one_more p s k) ∙ length-append (filter p (range_with_len s k)) (filter p ((s + k) ∷ []))
    ∙ ap (λ t. length (filter p (range_with_len s k)) + t) (single_length (p (s + k)) (s + k))

-- a sum so far and the next term
pub added : {a b c d t : ℕ} → a ≡ b → c ≡ d → t ≡ b + d → a + c ≡ t
added p q r = cc
