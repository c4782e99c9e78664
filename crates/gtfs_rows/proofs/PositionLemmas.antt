-- The first place that passes a test.
use Rattle.std.proofs.Common.{◌≡◌, ℕ, zero, suc, ◌<◌, ◌+◌, Bool, true, false, List, [], ◌∷◌, Some, None, length, get_or, refl, arith}
use Rattle.std.specs.List.{position_from}

pub position-found : {A : Type 0} (t : A → Bool) (xs : List A) (s i n : ℕ) (d : A) → i < length xs → ((k : ℕ) → k < i → t (get_or xs k d) ≡ false) → t (get_or xs i d) ≡ true → s + i ≡ n
    → position_from t s xs ≡ Some n
position-found t [] s i n d lt below here at = absurd (omega arith)
position-found t (x ∷ xs) s zero n d lt below here at = let same : s ≡ n = omega arith in rw (here, same) refl
position-found t (x ∷ xs) s (suc i) n d lt below here at =
    let first : t x ≡ false = below 0 (omega arith) in
    let later = position-found t xs (s + 1) i n d (omega arith) (λ k h. below (suc k) (omega arith)) here (omega arith) in
    rw first later

pub position-none : {A : Type 0} (t : A → Bool) (xs : List A) (s : ℕ) (d : A) → ((k : ℕ) → k < length xs → t (get_or xs k d) ≡ false) → position_from t s xs ≡ None
position-none t [] s d none = refl
position-none t (x ∷ xs) s d none =
    let first : t x ≡ false = none 0 (omega arith) in
    rw first (position-none t xs (s + 1) d (λ k h. none (suc k) (omega arith)))
