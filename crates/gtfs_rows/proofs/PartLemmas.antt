-- The parts of a list before and behind the first element that passes a test.
use Rattle.std.proofs.Common.{◌≡◌, ◌<◌, ◌+◌, ◌-◌, ℕ, suc, Bool, true, false, List, [], ◌∷◌, length, take, drop, get_or, refl, sym, ap, ◌∙◌, inl, inr, arith}
use Rattle.std.specs.List.{after_first, before_first, list_any, position_or_len}
use Rattle.std.proofs.lemmas.List.{drop_all, length-drop, take_all}
use Rattle.std.proofs.lemmas.List.Folds.{list_any_at}
use Rattle.std.proofs.lemmas.List.Sums.{passes_at_first, position_or_len_is}
use Rattle.std.proofs.lemmas.Bool.{cases_lt}

-- the first element that passes is at i
pub before-at : (p : ℕ → Bool) (xs : List ℕ) (i : ℕ) → i < length xs → ((k : ℕ) → k < i → p (get_or xs k 0) ≡ false) → p (get_or xs i 0) ≡ true
    → take i xs ≡ before_first p xs
before-at p xs i lt before at = ap (λ (n : ℕ). take n xs) (sym (position_or_len_is p xs i 0 (omega arith) before (λ _. at)))

pub behind-at : (p : ℕ → Bool) (xs : List ℕ) (i : ℕ) → i < length xs → ((k : ℕ) → k < i → p (get_or xs k 0) ≡ false) → p (get_or xs i 0) ≡ true
    → take (length xs - (i + 1)) (drop (i + 1) xs) ≡ after_first p xs
behind-at p xs i lt before at =
    let size = length-drop (i + 1) xs in
    take_all (length xs - (i + 1)) (drop (i + 1) xs) (omega arith) ∙ ap (λ (n : ℕ). drop (n + 1) xs) (sym (position_or_len_is p xs i 0 (omega arith) before (λ _. at)))

pub passes-at : (p : ℕ → Bool) (xs : List ℕ) (i : ℕ) → i < length xs → p (get_or xs i 0) ≡ true → list_any p xs ≡ true
passes-at p xs i lt at = list_any_at p xs i 0 lt at

-- no element passes
pub before-none : (p : ℕ → Bool) (xs : List ℕ) → ((k : ℕ) → k < length xs → p (get_or xs k 0) ≡ false) → xs ≡ before_first p xs
before-none p xs none =
    let all = position_or_len_is p xs (length xs) 0 (omega arith) none (λ h. absurd (omega arith)) in
    sym (take_all (length xs) xs (omega arith)) ∙ ap (λ (n : ℕ). take n xs) (sym all)

-- where none passes, nothing stands behind
pub behind-none : (p : ℕ → Bool) (xs : List ℕ) → list_any p xs ≡ false → after_first p xs ≡ []
behind-none p xs none = elim (cases_lt (position_or_len p xs) (length xs)) [
  | inl lt ↦
      let some = list_any_at p xs (position_or_len p xs) 0 lt (passes_at_first p xs 0 lt) in
      let bad : true ≡ false = sym some ∙ none in
      absurd (cc bad)
  | inr past ↦ drop_all (position_or_len p xs + 1) xs (omega arith)
]

pub none-passes : (p : ℕ → Bool) (xs : List ℕ) → ((k : ℕ) → k < length xs → p (get_or xs k 0) ≡ false) → list_any p xs ≡ false
none-passes p [] none = refl
none-passes p (x ∷ xs) none = rw (none 0 (omega arith)) (none-passes p xs (λ k h. none (suc k) (omega arith)))
