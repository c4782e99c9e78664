-- The whole parts of a split, and the units that they leave.
use Rattle.std.proofs.Common.{◌≡◌, ℕ, ◌+◌, ◌-◌, ◌*◌, ◌/◌, ◌<◌, ◌≤◌, List, length, sym, ◌∙◌, ap, arith, get_or, sum, subst}
use Rattle.std.specs.List.{range_with_len, sum_by}
use Rattle.std.proofs.lemmas.List.{ext_get_or}
use Rattle.std.proofs.lemmas.List.FromFn.{get_or-range_with_len, length-range_with_len}
use Rattle.std.proofs.lemmas.Bool.{le-ltb}
use Rattle.definitions.specs.Split.{whole_share, remainder, units_left, count_before, share}
use Rattle.definitions.proofs.Sums.{range_same}
use Rattle.definitions.proofs.DualityLemmas.{places}
use Rattle.definitions.proofs.RankLemmas.{rising_range}
use Rattle.definitions.proofs.SplitLemmas.{whole_within, fewer_left, shares_sum, no_weight}
use Rattle.loading.specs.Places.{IsNumbered}

-- a weight by its place
abbrev pub weight_in : List ℕ → ℕ → ℕ
weight_in ws a = get_or ws a 0

-- the places of a list
abbrev pub numbers : List ℕ → List ℕ
numbers ws = range_with_len 0 (length ws)

-- a sum over the places is the sum of the list
pub by_places : (xs : List ℕ) → sum_by (weight_in xs) (numbers xs) ≡ sum xs
by_places xs = places (weight_in xs) 0 xs (λ i lt. ap (weight_in xs) (let z : 0 + i ≡ i = omega arith in z))

-- the whole parts, as a list
pub record AreWhole (units all : ℕ) (ws out : List ℕ) : Type 0 where
  pub total : all ≡ sum ws
  pub some : 0 < all
  pub long : length out ≡ length ws
  pub whole : (a : ℕ) → a < length out → get_or out a 0 ≡ units * get_or ws a 0 / all

pub total_at : (units all : ℕ) (ws out : List ℕ) → AreWhole units all ws out → all ≡ sum_by (weight_in ws) (numbers ws)
total_at units all ws out h = h.total ∙ sym (by_places ws)

some_at : (units all : ℕ) (ws out : List ℕ) → AreWhole units all ws out → 0 < sum_by (weight_in ws) (numbers ws)
some_at units all ws out h = subst (λ t. 0 < t) (total_at units all ws out h) h.some

-- one of them
pub whole_at : (units all : ℕ) (ws out : List ℕ) → AreWhole units all ws out → (a : ℕ) → a < length ws → get_or out a 0 ≡ whole_share units (weight_in ws) (numbers ws) a
whole_at units all ws out h a lt = h.whole a (let long = h.long in omega arith) ∙ ap (λ t. units * get_or ws a 0 / t) (total_at units all ws out h)

whole_sum : (units all : ℕ) (ws out : List ℕ) → AreWhole units all ws out → sum out ≡ sum_by (whole_share units (weight_in ws) (numbers ws)) (numbers ws)
whole_sum units all ws out h =
    sym (by_places out)
    ∙ ap (λ n. sum_by (λ i. get_or out i 0) (range_with_len 0 n)) h.long
    ∙ range_same (λ i. get_or out i 0) (whole_share units (weight_in ws) (numbers ws)) 0 (length ws)
    (λ i low high. whole_at units all ws out h i (omega arith))

pub within_units : (units all : ℕ) (ws out : List ℕ) → AreWhole units all ws out → sum out ≤ units
within_units units all ws out h = rw (whole_sum units all ws out h) (whole_within units (weight_in ws) (numbers ws) (some_at units all ws out h))

pub left_is : (units all : ℕ) (ws out : List ℕ) → AreWhole units all ws out → units - sum out ≡ units_left units (weight_in ws) (numbers ws)
left_is units all ws out h = ap (λ s. units - s) (whole_sum units all ws out h)

pub left_few : (units all : ℕ) (ws out : List ℕ) → AreWhole units all ws out → units - sum out < length ws
left_few units all ws out h = rw (left_is units all ws out h)
    (let few = fewer_left units (weight_in ws) (numbers ws) (some_at units all ws out h) in omega (arith, length-range_with_len 0 (length ws)))

-- places at their own are a range
pub numbered : (n : ℕ) (xs : List ℕ) → IsNumbered n xs → range_with_len 0 n ≡ xs
numbered n xs h = ext_get_or 0 (range_with_len 0 n) xs (length-range_with_len 0 n ∙ sym h.long)
    (λ k lt. let inside : k < n = omega (arith, length-range_with_len 0 n) in
    get_or-range_with_len 0 n k 0 inside ∙ (let z : 0 + k ≡ k = omega arith in z) ∙ sym (h.own k inside))

-- where no unit is left, the whole parts are the shares
pub none_left : (units all : ℕ) (ws out : List ℕ) → AreWhole units all ws out → units - sum out ≡ 0 →
    (a : ℕ) → a < length out → get_or out a 0 ≡ share units (weight_in ws) (numbers ws) a
none_left units all ws out h none a lt =
    let left : units_left units (weight_in ws) (numbers ws) ≡ 0 = sym (left_is units all ws out h) ∙ none in
    whole_at units all ws out h a (let long = h.long in omega arith)
    ∙ rw (left, le-ltb (count_before (remainder units (weight_in ws) (numbers ws)) (numbers ws) a) 0 (omega arith)) (omega arith)

-- shares at all places give out the units
pub shares_give_all : (units : ℕ) (ws out : List ℕ) → 0 < sum ws → length out ≡ length ws →
    ((a : ℕ) → a < length out → get_or out a 0 ≡ share units (weight_in ws) (numbers ws) a) → sum out ≡ units
shares_give_all units ws out some long shares =
    sym (by_places out)
    ∙ ap (λ n. sum_by (weight_in out) (range_with_len 0 n)) long
    ∙ range_same (weight_in out) (share units (weight_in ws) (numbers ws)) 0 (length ws) (λ i low high. shares i (omega arith))
    ∙ shares_sum units (weight_in ws) 0 (numbers ws) (rising_range 0 (length ws)) (subst (λ t. 0 < t) (sym (by_places ws)) some)

-- and nothing where there is no weight
pub nothing_without : (units : ℕ) (ws out : List ℕ) → 0 < sum ws →
    ((a : ℕ) → a < length out → get_or out a 0 ≡ share units (weight_in ws) (numbers ws) a) →
    (a : ℕ) → a < length out → get_or ws a 0 ≡ 0 → get_or out a 0 ≡ 0
nothing_without units ws out some shares a lt none =
    shares a lt ∙ no_weight units (weight_in ws) (numbers ws) a (subst (λ t. 0 < t) (sym (by_places ws)) some) none
