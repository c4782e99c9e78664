-- Weak duality, in four steps: volumes gathered by tail and by head; each arc; each node's waits; the sum.
use Rattle.std.proofs.Common.{◌≡◌, ◌≢◌, ℕ, ◌+◌, ◌-◌, ◌*◌, ◌<◌, ◌≤◌, ◌==◌, Bool, true, false, cond, List, [], ◌∷◌, length, refl, sym, ◌∙◌, ap, arith, get_or, inl, inr, zero, suc, add-zero}
use Rattle.std.specs.List.{sum, sum_by, range_with_len}
use Rattle.std.proofs.lemmas.List.Sums.{sum_by-cons, get_or-le-sum_by}
use Rattle.std.proofs.lemmas.List.FromFn.{get_or-range_with_len, length-range_with_len}
use Rattle.std.proofs.lemmas.Bool.Decides.{eqb_tells}
use Rattle.std.proofs.lemmas.Bool.{eqb-true, cases_lt}
use Rattle.std.proofs.Math.Nat.{mul-le-mul_left, mul-le-mul_right}
use Rattle.definitions.specs.Network.{NetworkData, IsWellFormed, tail_of, head_of, cost_of, weight_of, is_boarding, arc_numbers, node_numbers, out_arcs, in_arcs, boarding_arcs}
use Rattle.definitions.specs.Plan.{IsPlan}
use Rattle.definitions.specs.Dual.{IsDualFeasible, bound_of_labels, saving}
use Rattle.definitions.specs.Duality.{WeakDuality}
use Rattle.definitions.proofs.Sums.{sum_by-filter, sum_by-scale, sum_by-add, sum_by-same, sum_by-none, range_le, range_same, gathered}

-- the sum of a list, by places
pub places : (f : ℕ → ℕ) (a : ℕ) (xs : List ℕ) → ((i : ℕ) → i < length xs → f (a + i) ≡ get_or xs i 0) → sum_by f (range_with_len a (length xs)) ≡ sum xs
places f a [] h = refl
places f a (x ∷ xs) h =
    sum_by-cons f a (range_with_len (a + 1) (length xs))
    ∙ ap (λ s. f a + s) (places f (a + 1) xs (λ i lt. let e : a + 1 + i ≡ a + suc i = omega arith in ap f e ∙ h (suc i) (omega arith)))
    ∙ ap (λ v. v + sum xs) (ap f (sym (add-zero a)) ∙ h 0 (omega arith))
    ∙ sym (sum_by-cons (λ v. v) x xs)

-- a term of a sum that is 0 is 0
pub zero_term : (f : ℕ → ℕ) (n a : ℕ) → a < n → sum_by f (range_with_len 0 n) ≤ 0 → f a ≡ 0
zero_term f n a lt h =
    let within : a < length (range_with_len 0 n) = rw length-range_with_len lt in
    let part : f (get_or (range_with_len 0 n) a 0) ≤ sum_by f (range_with_len 0 n) = get_or-le-sum_by f (range_with_len 0 n) a 0 within in
    let named : get_or (range_with_len 0 n) a 0 ≡ a = get_or-range_with_len 0 n a 0 lt ∙ omega arith in
    let same : f (get_or (range_with_len 0 n) a 0) ≡ f a = ap f named in
    omega arith

-- ---- one arc

-- what an arc's labels are worth is within its head's, its cost and, where it is boarded, its share of the wait
arc_worth : (b : Bool) (t h c x : ℕ) → (b ≡ false → t ≤ h + c) → t * x ≤ h * x + c * x + cond b (x * (t - (h + c))) 0
arc_worth true t h c x free =
    let within : t ≤ h + c + (t - (h + c)) = omega arith in
    let times : t * x ≤ (h + c + (t - (h + c))) * x = mul-le-mul_right x within in
    omega arith
arc_worth false t h c x free =
    let times : t * x ≤ (h + c) * x = mul-le-mul_right x (free refl) in
    omega arith

-- an arc's share of the wait at its tail
arc_share : (here b : Bool) (k q x f e : ℕ) → (here ≡ true → b ≡ true → k * x ≤ f * q) →
    k * cond here (cond b (x * e) 0) 0 ≤ q * cond here (cond b (f * e) 0) 0
arc_share true true k q x f e h = let times : k * x * e ≤ f * q * e = mul-le-mul_right e (h refl refl) in omega arith
arc_share true false k q x f e h = omega arith
arc_share false b k q x f e h = omega arith

-- where a price is 0 for all weights, it is 0
no_share : (here b : Bool) (x f e : ℕ) → (here ≡ true → b ≡ true → 0 < f) → cond here (cond b (f * e) 0) 0 ≡ 0 → cond here (cond b (x * e) 0) 0 ≡ 0
no_share true true x zero e pos none = absurd (let p : 0 < 0 = pos refl refl in omega arith)
no_share true true x (suc f) e pos none =
    let nothing : e ≡ 0 = omega arith in
    rw nothing (omega arith)
no_share true false x f e pos none = refl
no_share false b x f e pos none = refl

-- ---- one node

-- k > 0 cancels
pub cancelled : (k s q r : ℕ) → 0 < k → k * s ≤ q * r → r ≤ k → s ≤ q
cancelled k s q r pos share price = elim (cases_lt q s) [
  | inl over ↦ absurd (
      let above : q + 1 ≤ s = omega arith in
      let more : k * (q + 1) ≤ k * s = mul-le-mul_left k above in
      let priced : q * r ≤ q * k = mul-le-mul_left q price in
      omega arith)
  | inr under ↦ under
]

-- the prices at the boarding arcs of a node, as a sum over all arcs
pub spread : (net : NetworkData) (f : ℕ → ℕ) (i : ℕ) →
    sum_by f (boarding_arcs net i) ≡ sum_by (λ a. cond (tail_of net a == i) (cond (is_boarding net a) (f a) 0) 0) (arc_numbers net)
spread net f i =
    sum_by-filter f (is_boarding net) (out_arcs net i)
    ∙ sum_by-filter (λ a. cond (is_boarding net a) (f a) 0) (λ a. tail_of net a == i) (arc_numbers net)

-- the savings at a node, by the label of each arc's tail
savings_by_tail : (net : NetworkData) (u : List ℕ) (i : ℕ) →
    sum_by (λ a. cond (tail_of net a == i) (cond (is_boarding net a) (weight_of net a * saving net u (get_or u (tail_of net a) 0) a) 0) 0) (arc_numbers net)
    ≡ sum_by (λ a. weight_of net a * saving net u (get_or u i 0) a) (boarding_arcs net i)
savings_by_tail net u i =
    range_same (λ a. cond (tail_of net a == i) (cond (is_boarding net a) (weight_of net a * saving net u (get_or u (tail_of net a) 0) a) 0) 0)
    (λ a. cond (tail_of net a == i) (cond (is_boarding net a) (weight_of net a * saving net u (get_or u i 0) a) 0) 0) 0 (length net.arcs)
    (λ a low high. elim (eqb_tells (tail_of net a) i) [
      | inl w ↦ rw w.1 refl
      | inr w ↦ rw w.0 refl
    ])
    ∙ sym (spread net (λ a. weight_of net a * saving net u (get_or u i 0) a) i)

-- what the labels of a node's boarding arcs are worth is within its wait
node_worth : (net : NetworkData) (r m : ℕ) (g u x q : List ℕ) → IsWellFormed net → IsDualFeasible net r u → IsPlan net r m g x q →
    (i : ℕ) → i < net.nodes → i ≢ r →
    sum_by (λ a. cond (tail_of net a == i) (cond (is_boarding net a) (get_or x a 0 * saving net u (get_or u (tail_of net a) 0) a) 0) 0) (arc_numbers net) ≤ get_or q i 0
node_worth net r m g u x q sound dual plan i lt ne =
    let worth : ℕ → ℕ = λ a. cond (tail_of net a == i) (cond (is_boarding net a) (get_or x a 0 * saving net u (get_or u (tail_of net a) 0) a) 0) 0 in
    let price : ℕ → ℕ = λ a. cond (tail_of net a == i) (cond (is_boarding net a) (weight_of net a * saving net u (get_or u (tail_of net a) 0) a) 0) 0 in
    let priced : sum_by price (arc_numbers net) ≤ net.k = rw (savings_by_tail net u i) (dual.boarding i lt ne) in
    let shared : net.k * sum_by worth (arc_numbers net) ≤ get_or q i 0 * sum_by price (arc_numbers net) =
    rw (sum_by-scale net.k worth (arc_numbers net), sum_by-scale (get_or q i 0) price (arc_numbers net))
    (range_le (λ a. net.k * worth a) (λ a. get_or q i 0 * price a) 0 (length net.arcs)
    (λ a low high. arc_share (tail_of net a == i) (is_boarding net a) net.k (get_or q i 0) (get_or x a 0) (weight_of net a) (saving net u (get_or u (tail_of net a) 0) a)
    (λ here boards. let at_tail = ap (λ t. weight_of net a * get_or q t 0) (eqb-true (tail_of net a) i here) in
    let w : net.k * get_or x a 0 ≤ weight_of net a * get_or q (tail_of net a) 0 = plan.waited_for a (omega arith) boards in
    omega arith))) in
    elim (cases_lt 0 net.k) [
      | inl pos ↦ cancelled net.k (sum_by worth (arc_numbers net)) (get_or q i 0) (sum_by price (arc_numbers net)) pos shared priced
      | inr none ↦
          let nothing : sum_by worth (arc_numbers net) ≡ sum_by (λ _. 0) (arc_numbers net) =
          range_same worth (λ _. 0) 0 (length net.arcs) (λ a low high.
          no_share (tail_of net a == i) (is_boarding net a) (get_or x a 0) (weight_of net a) (saving net u (get_or u (tail_of net a) 0) a)
          (λ here boards. sound.weights a (omega arith) boards)
          (zero_term price (length net.arcs) a (omega arith) (omega arith))) in
          rw (nothing, sum_by-none (arc_numbers net)) (omega arith)
    ]

-- the same where the node's label is 0
goal_worth : (net : NetworkData) (u x : List ℕ) (i : ℕ) → get_or u i 0 ≡ 0 →
    sum_by (λ a. cond (tail_of net a == i) (cond (is_boarding net a) (get_or x a 0 * saving net u (get_or u (tail_of net a) 0) a) 0) 0) (arc_numbers net) ≤ 0
goal_worth net u x i none =
    rw (
      range_same (λ a. cond (tail_of net a == i) (cond (is_boarding net a) (get_or x a 0 * saving net u (get_or u (tail_of net a) 0) a) 0) 0) (λ _. 0) 0 (length net.arcs)
          (λ a low high. worthless (tail_of net a == i) (is_boarding net a) (get_or x a 0) (get_or u (tail_of net a) 0) (get_or u (head_of net a) 0 + cost_of net a)
          (λ here. ap (λ t. get_or u t 0) (eqb-true (tail_of net a) i here) ∙ none)),
      sum_by-none (arc_numbers net),
    ) (omega arith)
  where
    worthless : (here b : Bool) (x t o : ℕ) → (here ≡ true → t ≡ 0) → cond here (cond b (x * (t - o)) 0) 0 ≡ 0
    worthless true true x t o h = let e : t - o ≡ 0 = let z = h refl in omega arith in rw e (omega arith)
    worthless true false x t o h = refl
    worthless false b x t o h = refl

-- ---- the sums

-- what leaves and enters, priced by the labels
balanced : (net : NetworkData) (r m : ℕ) (g u x q : List ℕ) → IsWellFormed net → length g ≡ net.nodes → IsDualFeasible net r u → IsPlan net r m g x q →
    sum_by (λ a. get_or u (tail_of net a) 0 * get_or x a 0) (arc_numbers net) ≡ m * bound_of_labels g u + sum_by (λ a. get_or u (head_of net a) 0 * get_or x a 0) (arc_numbers net)
balanced net r m g u x q sound long dual plan =
    let out : ℕ → ℕ = λ i. sum_by (λ a. get_or x a 0) (out_arcs net i) in
    let into : ℕ → ℕ = λ i. sum_by (λ a. get_or x a 0) (in_arcs net i) in
    let bound : sum_by (λ i. m * (get_or g i 0 * get_or u i 0)) (node_numbers net) ≡ m * bound_of_labels g u =
    rw long (sym (sum_by-scale m (λ i. get_or g i 0 * get_or u i 0) (node_numbers net))) in
    sym (gathered net.nodes (length net.arcs) (tail_of net) (λ i. get_or u i 0) (λ a. get_or x a 0) sound.tails)
    ∙ range_same (λ i. get_or u i 0 * out i) (λ i. m * (get_or g i 0 * get_or u i 0) + get_or u i 0 * into i) 0 net.nodes
    (λ i low high. elim (eqb_tells i r) [
      | inl w ↦ (let zero_label : get_or u i 0 ≡ 0 = ap (λ j. get_or u j 0) w.1 ∙ dual.zero_at_destination in rw zero_label (omega arith))
      | inr w ↦ (let c : out i ≡ m * get_or g i 0 + into i = plan.conserved i (omega arith) w.1 in rw c (omega arith))
    ])
    ∙ sum_by-add (λ i. m * (get_or g i 0 * get_or u i 0)) (λ i. get_or u i 0 * into i) (node_numbers net)
    ∙ ap (λ s. s + sum_by (λ i. get_or u i 0 * into i) (node_numbers net)) bound
    ∙ ap (λ s. m * bound_of_labels g u + s) (gathered net.nodes (length net.arcs) (head_of net) (λ i. get_or u i 0) (λ a. get_or x a 0) sound.heads)

pub duality : WeakDuality
duality net r g u sound long dual m x q plan =
    let worth : ℕ → ℕ = λ a. cond (is_boarding net a) (get_or x a 0 * saving net u (get_or u (tail_of net a) 0) a) 0 in
    let there : ℕ → ℕ = λ a. get_or u (head_of net a) 0 * get_or x a 0 in
    let travel : ℕ → ℕ = λ a. cost_of net a * get_or x a 0 in
    let arcs_worth : sum_by (λ a. get_or u (tail_of net a) 0 * get_or x a 0) (arc_numbers net) ≤ sum_by there (arc_numbers net) + sum_by travel (arc_numbers net) + sum_by worth (arc_numbers net) =
    rw (← sum_by-add there travel (arc_numbers net), ← sum_by-add (λ a. there a + travel a) worth (arc_numbers net))
    (range_le (λ a. get_or u (tail_of net a) 0 * get_or x a 0) (λ a. there a + travel a + worth a) 0 (length net.arcs)
    (λ a low high. arc_worth (is_boarding net a) (get_or u (tail_of net a) 0) (get_or u (head_of net a) 0) (cost_of net a) (get_or x a 0)
    (λ free. elim (eqb_tells (tail_of net a) r) [
      | inl w ↦ (let zero_label : get_or u (tail_of net a) 0 ≡ 0 = ap (λ j. get_or u j 0) w.1 ∙ dual.zero_at_destination in omega arith)
      | inr w ↦ dual.free_arcs a (omega arith) w.1 free
    ]))) in
    let waits : sum_by worth (arc_numbers net) ≤ sum q =
    let one : sum_by worth (arc_numbers net) ≡ sum_by (λ a. 1 * worth a) (arc_numbers net) = sum_by-same worth (λ a. 1 * worth a) (arc_numbers net) (λ a. omega arith) in
    let all : sum_by (λ i. 1 * sum_by worth (out_arcs net i)) (node_numbers net) ≡ sum_by (λ a. 1 * worth a) (arc_numbers net) = gathered net.nodes (length net.arcs) (tail_of net) (λ _. 1) worth sound.tails in
    let each : sum_by (λ i. 1 * sum_by worth (out_arcs net i)) (node_numbers net) ≤ sum_by (λ i. get_or q i 0) (node_numbers net) =
    range_le (λ i. 1 * sum_by worth (out_arcs net i)) (λ i. get_or q i 0) 0 net.nodes
    (λ i low high. let e : sum_by worth (out_arcs net i) ≡ sum_by (λ a. cond (tail_of net a == i) (worth a) 0) (arc_numbers net) = sum_by-filter worth (λ a. tail_of net a == i) (arc_numbers net) in
    elim (eqb_tells i r) [
      | inl w ↦ (let b = goal_worth net u x i (ap (λ j. get_or u j 0) w.1 ∙ dual.zero_at_destination) in omega arith)
      | inr w ↦ (let b = node_worth net r m g u x q sound dual plan i (omega arith) w.1 in omega arith)
    ]) in
    let listed : sum_by (λ i. get_or q i 0) (node_numbers net) ≡ sum q = rw (← plan.wait_per_node) (places (λ i. get_or q i 0) 0 q (λ i lt. ap (λ j. get_or q j 0) (let z : 0 + i ≡ i = omega arith in z))) in
    omega arith in
    let balance = balanced net r m g u x q sound long dual plan in
    omega arith
