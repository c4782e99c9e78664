-- The first fault of the kept lines, and how many nodes they take.
use Rattle.std.proofs.Common.{◌≡◌, ℕ, zero, suc, ◌+◌, ◌<◌, ◌≤◌, Bool, true, List, [], ◌∷◌, ◌++◌, Some, length, get_or, refl, ap, ◌∙◌, inl, inr, arith}
use Rattle.std.specs.Prelude.{filter, flat_map, nat_lt, slice_get, slice_index_or, sum_by}
use Rattle.std.specs.List.{range_with_len}
use Rattle.std.proofs.lemmas.Bool.{cases_Bool, cases_lt, le-ltb, lt-ltb}
use Rattle.std.proofs.lemmas.List.Sums.{sum_by-cons}
use Rattle.definitions.proofs.Sums.{sum_by-filter, sum_more, range_same}
use Rattle.definitions.specs.declared.limits.TheConstants.{WEIGHT_LIMIT}
use Rattle.network.specs.declared.fault.BuildFault.{BuildFault}
use Rattle.network.specs.declared.fault.Limit.{Limit}
use Rattle.network.specs.declared.fault.Limit.TheVariants as limit
use Rattle.network.specs.Faults.{IsFirstFault, limit_faults, weight_faults}
use Rattle.network.specs.Kept.{nodes_for, nodes_on, nodes_to}
use Rattle.network.specs.Nodes.{line_nodes, nodes_before, nodes_of}
use Rattle.network.specs.Sources.{Sources, kept_count, kept_numbers, weight_in}
use Rattle.network.proofs.NodeLemmas.{line_size, node_count}

-- ---- the first fault

pub count_passes : (name : Limit) (most count : ℕ) → count ≤ most → limit_faults name most count ≡ []
count_passes name most count le = rw (le-ltb most count le) refl

-- where there is none, none is the first
pub no_first : {A : Type 0} (xs : List A) (x : A) → xs ≡ [] → slice_get xs 0 ≡ Some x → ⊥
no_first [] x none h = cc
no_first (y ∷ xs) x none h = cc

-- a first fault stays the first
pub first_stays : (xs ys : List BuildFault) (one : BuildFault) → slice_get xs 0 ≡ Some one → slice_get (xs ++ ys) 0 ≡ Some one
first_stays [] ys one e = absurd cc
first_stays (x ∷ xs) ys one e = e

-- of numbers without a fault there is none
none_among : (f : ℕ → List BuildFault) (p : ℕ → Bool) (a n : ℕ) → ((i : ℕ) → i < n → f (a + i) ≡ []) → flat_map f (filter p (range_with_len a n)) ≡ []
none_among f p a zero each = refl
none_among f p a (suc n) each =
    let z : a + 0 ≡ a = omega arith in
    let here : f a ≡ [] = rw z at (each 0 (omega arith)) in
    let rest = none_among f p (a + 1) n (λ i lt. let y : a + suc i ≡ a + 1 + i = omega arith in rw y at (each (suc i) (omega arith))) in
    elim (cases_Bool (p a)) [
      | inl e ↦ rw (e, here) rest
      | inr e ↦ rw e rest
    ]

-- the first number with a fault has the first of all
first_among : (f : ℕ → List BuildFault) (p : ℕ → Bool) (one : BuildFault) (a n m : ℕ) → ((i : ℕ) → i < n → f (a + i) ≡ []) → n < m → p (a + n) ≡ true →
    slice_get (f (a + n)) 0 ≡ Some one → slice_get (flat_map f (filter p (range_with_len a m))) 0 ≡ Some one
first_among f p one a n zero each lt e h = absurd (omega arith)
first_among f p one a zero (suc m) each lt e h =
    let z : a + zero ≡ a = omega arith in
    let passes : p a ≡ true = rw z at e in
    rw passes (first_stays (f a) (flat_map f (filter p (range_with_len (a + 1) m))) one (rw z at h))
first_among f p one a (suc n) (suc m) each lt e h =
    let z : a + 0 ≡ a = omega arith in
    let here : f a ≡ [] = rw z at (each 0 (omega arith)) in
    let y : a + suc n ≡ a + 1 + n = omega arith in
    let rest = first_among f p one (a + 1) n m (λ i lt. let x : a + suc i ≡ a + 1 + i = omega arith in rw x at (each (suc i) (omega arith))) (omega arith) (rw y at e) (rw y at h) in
    elim (cases_Bool (p a)) [
      | inl q ↦ rw (q, here) rest
      | inr q ↦ rw q rest
    ]

pub weights_pass : (sources : Sources) → ((i : ℕ) → i < length sources.lines → weight_in sources i ≤ WEIGHT_LIMIT) → weight_faults sources ≡ []
unfolding kept_numbers
weights_pass sources each =
    none_among (λ number. limit_faults limit.Weight WEIGHT_LIMIT (weight_in sources number)) (λ number. nat_lt 0 (weight_in sources number)) 0 (length sources.lines)
    (λ i lt. let z : 0 + i ≡ i = omega arith in rw z (count_passes limit.Weight WEIGHT_LIMIT (weight_in sources i) (each i lt)))

-- the first line with a fault has the first of all
pub weight_fails : (sources : Sources) (number : ℕ) (one : BuildFault) → ((i : ℕ) → i < number → weight_in sources i ≤ WEIGHT_LIMIT) → number < length sources.lines →
    IsFirstFault (limit_faults limit.Weight WEIGHT_LIMIT (weight_in sources number)) one → IsFirstFault (weight_faults sources) one
unfolding kept_numbers
weight_fails sources number one each lt (inl e) = inl e
weight_fails sources number one each lt (inr e) =
    let z : 0 + number ≡ number = omega arith in
    elim (cases_lt WEIGHT_LIMIT (weight_in sources number)) [
      | inl past ↦
          inr
          (first_among (λ number. limit_faults limit.Weight WEIGHT_LIMIT (weight_in sources number)) (λ number. nat_lt 0 (weight_in sources number)) one 0 number (length sources.lines)
          (λ i before. let y : 0 + i ≡ i = omega arith in rw y (count_passes limit.Weight WEIGHT_LIMIT (weight_in sources i) (each i before)))
          lt (rw z (lt-ltb 0 (weight_in sources number) (omega arith))) (rw z e))
      | inr within ↦ absurd (no_first (limit_faults limit.Weight WEIGHT_LIMIT (weight_in sources number)) one (count_passes limit.Weight WEIGHT_LIMIT (weight_in sources number) (omega arith)) e)
    ]

-- ---- how many nodes there are

-- a sum over the elements of a list, by their places
by_places : (f g : ℕ → ℕ) (xs : List ℕ) (a : ℕ) → ((i : ℕ) → i < length xs → g (a + i) ≡ get_or xs i 0) → sum_by (λ i. f (g i)) (range_with_len a (length xs)) ≡ sum_by f xs
by_places f g [] a at = refl
by_places f g (x ∷ xs) a at =
    let z : a + 0 ≡ a = omega arith in
    let here : g a ≡ x = rw z at (at 0 (omega arith)) in
    let same : f (g a) ≡ f x = ap f here in
    let rest = by_places f g xs (a + 1) (λ i lt. let y : a + suc i ≡ a + 1 + i = omega arith in rw y at (at (suc i) (omega arith))) in
    let one = sum_by-cons (λ i. f (g i)) a (range_with_len (a + 1) (length xs)) in
    let other = sum_by-cons f x xs in
    omega arith

nodes_by_line : (sources : Sources) → nodes_before sources (kept_count sources) ≡ sum_by (nodes_on sources) (kept_numbers sources)
nodes_by_line sources =
    range_same (λ kept. length (line_nodes sources kept)) (λ kept. nodes_on sources (slice_index_or (kept_numbers sources) kept 0)) 0 (kept_count sources) (λ kept from to. line_size sources kept)
    ∙ by_places (nodes_on sources) (λ kept. slice_index_or (kept_numbers sources) kept 0) (kept_numbers sources) 0 (λ i lt. let z : 0 + i ≡ i = omega arith in rw z refl)

pub nodes_counted : (sources : Sources) → nodes_to sources (length sources.lines) ≡ length (nodes_of sources)
unfolding kept_numbers
nodes_counted sources =
    let parts : nodes_before sources (kept_count sources) ≡ sum_by (nodes_for sources) (range_with_len 0 (length sources.lines)) =
    nodes_by_line sources ∙ sum_by-filter (nodes_on sources) (λ number. nat_lt 0 (weight_in sources number)) (range_with_len 0 (length sources.lines)) in
    let all = node_count sources in
    omega arith

pub nodes_more : (sources : Sources) (number : ℕ) → nodes_to sources (number + 1) ≡ nodes_to sources number + nodes_for sources number
nodes_more sources number = let more = sum_more (nodes_for sources) number in omega arith
