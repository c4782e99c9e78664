-- Ranges of numbers, and the parts of lists that stand at their places.
use Rattle.std.proofs.Common.{◌≡◌, ℕ, zero, suc, ◌+◌, ◌<◌, ◌≤◌, Bool, true, cond, List, [], ◌∷◌, ◌++◌, length, take, map, drop, get_or, refl, sym, ◌∙◌, ap, arith, inl, inr}
use Rattle.std.specs.List.{All, sum, sum_by, count_by, filter, range_with_len}
use Rattle.std.proofs.lemmas.List.{drop_more}
use Rattle.std.proofs.lemmas.List.Elements.{filter-append, All-nil, All-cons}
use Rattle.std.proofs.lemmas.List.Sums.{sum_by_push, sum-map}
use Rattle.std.proofs.lemmas.Bool.{cases_Bool}
use Rattle.definitions.proofs.Sums.{range_more}

-- a range in two parts
pub range_split : (s m n : ℕ) → range_with_len s (m + n) ≡ range_with_len s m ++ range_with_len (s + m) n
range_split s zero n =
    let e : zero + n ≡ n = omega arith in
    let f : s + zero ≡ s = omega arith in
    ap (range_with_len s) e ∙ ap (λ t. range_with_len t n) (sym f)
range_split s (suc m) n =
    let e : suc m + n ≡ suc (m + n) = omega arith in
    let f : s + 1 + m ≡ s + suc m = omega arith in
    ap (range_with_len s) e ∙ ap (λ xs. s ∷ xs) (range_split (s + 1) m n ∙ ap (λ t. range_with_len (s + 1) m ++ range_with_len t n) f)

-- one more number of a count
pub count_by-more : (p : ℕ → Bool) (m : ℕ) → count_by p (range_with_len 0 (m + 1)) ≡ count_by p (range_with_len 0 m) + cond (p m) 1 0
count_by-more p m =
    let e : 0 + m ≡ m = omega arith in
    rw (range_more 0 m, e) (sum_by_push (λ a. cond (p a) 1 0) (range_with_len 0 m) m)

-- one more number of a filter
pub filter-more : (p : ℕ → Bool) (m : ℕ) → filter p (range_with_len 0 (m + 1)) ≡ filter p (range_with_len 0 m) ++ cond (p m) (m ∷ []) []
filter-more p m =
    let e : 0 + m ≡ m = omega arith in
    rw (range_more 0 m, e) (filter-append p (range_with_len 0 m) (m ∷ []))

-- what a filter keeps of a range
pub filter_keeps : (p : ℕ → Bool) (s n : ℕ) → All (λ a. (a < s + n) × (p a ≡ true)) (filter p (range_with_len s n))
filter_keeps p s n = kept s n (s + n) (omega arith)
  where
    kept : (s n e : ℕ) → s + n ≤ e → All (λ a. (a < e) × (p a ≡ true)) (filter p (range_with_len s n))
    kept s zero e le = All-nil (λ a. (a < e) × (p a ≡ true))
    kept s (suc n) e le = elim (cases_Bool (p s)) [
      | inl pass ↦ rw pass (All-cons (λ a. (a < e) × (p a ≡ true)) s (filter p (range_with_len (s + 1) n)) (omega arith, pass) (kept (s + 1) n e (omega arith)))
      | inr fail ↦ rw fail (kept (s + 1) n e (omega arith))
    ]

-- the elements at a range's places are a part of the list
pub map-span : {X : Type 0} (xs : List X) (d : X) (s n : ℕ) → s + n ≤ length xs → map (λ i. get_or xs i d) (range_with_len s n) ≡ take n (drop s xs)
map-span xs d s zero le = refl
map-span xs d s (suc n) le = rw (drop_more xs s d (omega arith)) (ap (λ ys. get_or xs s d ∷ ys) (map-span xs d (s + 1) n (omega arith)))

-- the sum of the numbers at a range's places
pub sum_by-span : (xs : List ℕ) (s n : ℕ) → s + n ≤ length xs → sum_by (λ i. get_or xs i 0) (range_with_len s n) ≡ sum (take n (drop s xs))
sum_by-span xs s n le = sym (sum-map (λ i. get_or xs i 0) (range_with_len s n)) ∙ ap sum (map-span xs 0 s n le)
