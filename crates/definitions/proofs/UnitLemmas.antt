-- A node has no more units than there is demand.
use Rattle.std.proofs.Common.{◌≡◌, ℕ, ◌+◌, ◌*◌, ◌<◌, ◌≤◌, ◌==◌, Bool, true, false, cond, List, length, refl, ◌∙◌, ap, arith, inl, inr, ◌⊎◌, get_or}
use Rattle.std.specs.Bool.{nat_lt, nat_le}
use Rattle.std.specs.List.{sum_by, sum, range_with_len}
use Rattle.std.proofs.lemmas.List.Sums.{sum_by-le-sum_by, get_or-le-sum_by}
use Rattle.std.proofs.lemmas.List.FromFn.{get_or-range_with_len, length-range_with_len}
use Rattle.std.proofs.lemmas.Bool.Decides.{eqb_tells}
use Rattle.std.proofs.lemmas.Bool.{cases_lt, cases_eq, cases_Bool, eq-eqb, leb-true, ltb-true, le-leb, lt-ltb, le-ltb}
use Rattle.std.proofs.Math.Nat.{mul-le-mul_left, mul-le-mul_right}
use Rattle.definitions.specs.Network.{NetworkData, IsWellFormed, tail_of, head_of, arc_numbers, node_numbers, out_arcs, in_arcs}
use Rattle.definitions.specs.Volumes.{part_of, units_at, SolvesVolumes}
use Rattle.definitions.specs.Choice.{choice_at}
use Rattle.definitions.specs.declared.choice.Choice.TheVariants.{Stop}
use Rattle.definitions.specs.VolumeLaws.{UnitsAreWithinDemand, VolumesAreWithinDemand}
use Rattle.definitions.proofs.Sums.{sum_by-filter, sum_by-add, sum_by-same, range_le, one_term, gathered}
use Rattle.definitions.proofs.DualityLemmas.{places}
use Rattle.definitions.proofs.ChoiceLemmas.{LeadsOn}
use Rattle.definitions.proofs.VolumeLemmas.{conserves, carries}

-- a cut at the label of a node: what comes to nodes at or above it comes from nodes above it, which send on no more than they have
pub units_below : (net : NetworkData) (reached : List Bool) (labels demand volumes : List ℕ) → IsWellFormed net → length demand ≡ net.nodes →
    ((a : ℕ) → a < length net.arcs → (get_or volumes a 0 ≡ 0) ⊎ LeadsOn net reached labels a) →
    (i : ℕ) → i < net.nodes →
    ((j : ℕ) → j < net.nodes → get_or labels i 0 < get_or labels j 0 → sum_by (λ a. get_or volumes a 0) (out_arcs net j) ≤ units_at net demand volumes j) →
    units_at net demand volumes i ≤ sum demand
units_below net reached labels demand volumes sound long falls i lt gives =
    let level : ℕ = get_or labels i 0 in
    let high : ℕ → ℕ = λ j. cond (nat_le level (get_or labels j 0)) 1 0 in
    let higher : ℕ → ℕ = λ j. cond (nat_lt level (get_or labels j 0)) 1 0 in
    let units : ℕ → ℕ = units_at net demand volumes in
    let into : ℕ → ℕ = λ j. sum_by (λ a. get_or volumes a 0) (in_arcs net j) in
    let wanted : ℕ → ℕ = λ j. get_or demand j 0 in
    let split : sum_by (λ j. high j * units j) (node_numbers net) ≡ sum_by (λ j. high j * wanted j) (node_numbers net) + sum_by (λ j. high j * into j) (node_numbers net) =
    sum_by-same (λ j. high j * units j) (λ j. high j * wanted j + high j * into j) (node_numbers net) (λ j. omega arith)
    ∙ sum_by-add (λ j. high j * wanted j) (λ j. high j * into j) (node_numbers net) in
    let less : sum_by (λ j. high j * wanted j) (node_numbers net) ≤ sum demand =
    let listed : sum_by wanted (node_numbers net) ≡ sum demand = rw (← long) (places wanted 0 demand (λ k lt'. ap wanted (let z : 0 + k ≡ k = omega arith in z))) in
    let most : sum_by (λ j. high j * wanted j) (node_numbers net) ≤ sum_by wanted (node_numbers net) =
    sum_by-le-sum_by (λ j. high j * wanted j) wanted (node_numbers net) (λ j. at_most (nat_le level (get_or labels j 0)) (wanted j)) in
    omega arith in
    let entering : sum_by (λ j. high j * into j) (node_numbers net) ≡ sum_by (λ a. high (head_of net a) * get_or volumes a 0) (arc_numbers net) =
    gathered net.nodes (length net.arcs) (head_of net) high (λ a. get_or volumes a 0) sound.heads in
    let falling : sum_by (λ a. high (head_of net a) * get_or volumes a 0) (arc_numbers net) ≤ sum_by (λ a. higher (tail_of net a) * get_or volumes a 0) (arc_numbers net) =
    range_le _ _ 0 (length net.arcs) (λ a low end. elim (falls a (omega arith)) [
      | inl idle ↦ rw idle (omega arith)
      | inr on ↦ (let fast = on.fast in let dear = sound.costs a (omega arith) in
          mul-le-mul_right (get_or volumes a 0) (step level (get_or labels (head_of net a) 0) (get_or labels (tail_of net a) 0) (omega arith)))
    ]) in
    let leaving : sum_by (λ a. higher (tail_of net a) * get_or volumes a 0) (arc_numbers net) ≤ sum_by (λ j. higher j * units j) (node_numbers net) =
    let by_node : sum_by (λ j. higher j * sum_by (λ a. get_or volumes a 0) (out_arcs net j)) (node_numbers net) ≡ sum_by (λ a. higher (tail_of net a) * get_or volumes a 0) (arc_numbers net) =
    gathered net.nodes (length net.arcs) (tail_of net) higher (λ a. get_or volumes a 0) sound.tails in
    let no_more : sum_by (λ j. higher j * sum_by (λ a. get_or volumes a 0) (out_arcs net j)) (node_numbers net) ≤ sum_by (λ j. higher j * units j) (node_numbers net) =
    range_le _ _ 0 net.nodes (λ j low end. elim (cases_lt level (get_or labels j 0)) [
      | inl above ↦ mul-le-mul_left (higher j) (gives j (omega arith) above)
      | inr below ↦ rw (le-ltb level (get_or labels j 0) below) (omega arith)
    ]) in
    omega arith in
    let apart : sum_by (λ j. higher j * units j) (node_numbers net) + units i ≤ sum_by (λ j. high j * units j) (node_numbers net) =
    let here : sum_by (λ j. cond (i == j) (units j) 0) (node_numbers net) ≡ units i = one_term units i 0 net.nodes (omega arith) (omega arith) in
    let both : sum_by (λ j. higher j * units j) (node_numbers net) + sum_by (λ j. cond (i == j) (units j) 0) (node_numbers net) ≤ sum_by (λ j. high j * units j) (node_numbers net) =
    rw (← sum_by-add (λ j. higher j * units j) (λ j. cond (i == j) (units j) 0) (node_numbers net))
    (sum_by-le-sum_by (λ j. higher j * units j + cond (i == j) (units j) 0) (λ j. high j * units j) (node_numbers net) (λ j.
    elim (eqb_tells i j) [
      | inl w ↦ (let same : level ≡ get_or labels j 0 = ap (λ k. get_or labels k 0) w.1 in
          rw (w.0, le-ltb level (get_or labels j 0) (omega arith), le-leb level (get_or labels j 0) (omega arith)) (omega arith))
      | inr w ↦ rw w.0 (let m : higher j * units j ≤ high j * units j = mul-le-mul_right (units j) (rises level (get_or labels j 0)) in omega arith)
    ])) in
    omega arith in
    omega arith
  where
    at_most : (b : Bool) (m : ℕ) → cond b 1 0 * m ≤ m
    at_most true m = omega arith
    at_most false m = omega arith

    step : (l h t : ℕ) → h < t → cond (nat_le l h) 1 0 ≤ cond (nat_lt l t) 1 0
    step l h t lt' = elim (cases_Bool (nat_le l h)) [
      | inl y ↦ (let le = leb-true l h y in rw (y, lt-ltb l t (omega arith)) (omega arith))
      | inr n ↦ rw n (omega arith)
    ]

    rises : (l t : ℕ) → cond (nat_lt l t) 1 0 ≤ cond (nat_le l t) 1 0
    rises l t = elim (cases_Bool (nat_lt l t)) [
      | inl y ↦ (let lt' = ltb-true l t y in rw (y, le-leb l t (omega arith)) (omega arith))
      | inr n ↦ rw n (omega arith)
    ]

pub units_are_within_demand : UnitsAreWithinDemand
units_are_within_demand net destination reached labels demand volumes sound solved carried solves node lt =
    units_below net reached labels demand volumes sound carried.demand_per_node (carries net destination reached labels demand volumes solves) node lt
    (λ j inside above.
    let all = conserves net destination reached labels demand volumes solved solves carried j inside
    (λ at. let none : get_or labels j 0 ≡ 0 = ap (λ k. get_or labels k 0) at ∙ solved.zero_at_destination in omega arith) in
    omega arith)

-- a term of a sum over a range is within the sum
term_within : (f : ℕ → ℕ) (n a : ℕ) → a < n → f a ≤ sum_by f (range_with_len 0 n)
term_within f n a lt =
    let part : f (get_or (range_with_len 0 n) a 0) ≤ sum_by f (range_with_len 0 n) = get_or-le-sum_by f (range_with_len 0 n) a 0 (omega (arith, length-range_with_len 0 n)) in
    let named : get_or (range_with_len 0 n) a 0 ≡ a = get_or-range_with_len 0 n a 0 lt ∙ (let z : 0 + a ≡ a = omega arith in z) in
    let same : f (get_or (range_with_len 0 n) a 0) ≡ f a = ap f named in
    omega arith

-- nobody goes on at the destination
destination_stops : (net : NetworkData) (destination : ℕ) (reached : List Bool) (labels : List ℕ) (i : ℕ) → i ≡ destination → choice_at net destination reached labels i ≡ Stop
destination_stops net destination reached labels i at = rw (eq-eqb i destination at) refl

-- nothing leaves the destination
none_leaves : (net : NetworkData) (destination : ℕ) (reached : List Bool) (labels demand volumes : List ℕ) → SolvesVolumes net destination reached labels demand volumes →
    (a : ℕ) → a < length net.arcs → tail_of net a ≡ destination → get_or volumes a 0 ≡ 0
none_leaves net destination reached labels demand volumes solves a lt at =
    let stops : choice_at net destination reached labels (tail_of net a) ≡ Stop = destination_stops net destination reached labels (tail_of net a) at in
    solves.parts a lt ∙ ap (λ c. part_of net reached labels c (units_at net demand volumes (tail_of net a)) a) stops

pub volumes_are_within_demand : VolumesAreWithinDemand
volumes_are_within_demand net destination reached labels demand volumes sound solved carried solves a lt =
    let node : ℕ = tail_of net a in
    let leaving : ℕ → ℕ = λ b. cond (tail_of net b == node) (get_or volumes b 0) 0 in
    elim (cases_eq node destination) [
      | inl at ↦ (let none = none_leaves net destination reached labels demand volumes solves a lt at in omega arith)
      | inr away ↦ (
          let here : leaving a ≡ get_or volumes a 0 = rw (eq-eqb node node refl) refl in
          let part : leaving a ≤ sum_by leaving (arc_numbers net) = term_within leaving (length net.arcs) a lt in
          let all : sum_by (λ b. get_or volumes b 0) (out_arcs net node) ≡ sum_by leaving (arc_numbers net) = sum_by-filter (λ b. get_or volumes b 0) (λ b. tail_of net b == node) (arc_numbers net) in
          let sent = conserves net destination reached labels demand volumes solved solves carried node (sound.tails a lt) away in
          let units = units_are_within_demand net destination reached labels demand volumes sound solved carried solves node (sound.tails a lt) in
          omega arith)
    ]
