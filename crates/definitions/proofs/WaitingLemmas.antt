-- Labels where passengers wait: the attractive arcs save up to k, and with the next label more.
use Rattle.std.proofs.Common.{◌≡◌, ◌≢◌, ℕ, ◌+◌, ◌-◌, ◌*◌, ◌<◌, ◌≤◌, ◌==◌, Bool, true, false, not, ◌&&◌, cond, List, [], length, refl, sym, ◌∙◌, ap, arith, inl, inr, get_or}
use Rattle.std.specs.Bool.{nat_le}
use Rattle.std.specs.List.{filter, sum_by}
use Rattle.std.proofs.lemmas.Bool.{cases_lt, cases_Bool, and_from, eqb-true, eq-eqb, le-leb, false≢true, not_from_false}
use Rattle.definitions.specs.Network.{NetworkData, tail_of, head_of, weight_of, is_boarding, arc_numbers, out_arcs, boarding_arcs}
use Rattle.definitions.specs.Reach.{is_reached}
use Rattle.definitions.specs.Dual.{time_through}
use Rattle.definitions.specs.Labels.{reaching_boardings, SolvesLabels}
use Rattle.definitions.specs.Choice.{is_tight, is_attractive, attractive_arcs}
use Rattle.definitions.proofs.Sums.{sum_by-filter, sum_by-add, range_le}
use Rattle.definitions.proofs.ChoiceLemmas.{none_pass}

-- a sum over the attractive arcs of a node, over all arcs
pub attractive_spread : (net : NetworkData) (reached : List Bool) (labels : List ℕ) (f : ℕ → ℕ) (node : ℕ) →
    sum_by f (attractive_arcs net reached labels node) ≡ sum_by (λ a. cond (tail_of net a == node) (cond (is_attractive net reached labels a) (f a) 0) 0) (arc_numbers net)
attractive_spread net reached labels f node =
    sum_by-filter f (is_attractive net reached labels) (out_arcs net node)
    ∙ sum_by-filter (λ a. cond (is_attractive net reached labels a) (f a) 0) (λ a. tail_of net a == node) (arc_numbers net)

-- and over the usable boardings
usable_spread : (net : NetworkData) (reached : List Bool) (f : ℕ → ℕ) (node : ℕ) →
    sum_by f (reaching_boardings net reached node) ≡ sum_by (λ a. cond (tail_of net a == node) (cond (is_boarding net a) (cond (is_reached reached (head_of net a)) (f a) 0) 0) 0) (arc_numbers net)
usable_spread net reached f node =
    sum_by-filter f (λ a. is_reached reached (head_of net a)) (boarding_arcs net node)
    ∙ sum_by-filter (λ a. cond (is_reached reached (head_of net a)) (f a) 0) (is_boarding net) (out_arcs net node)
    ∙ sum_by-filter (λ a. cond (is_boarding net a) (cond (is_reached reached (head_of net a)) (f a) 0) 0) (λ a. tail_of net a == node) (arc_numbers net)

-- ---- a wait's label is full

-- an arc's price at the next label is its price at this one and its weight
next_price : (here b on : Bool) (f u t w : ℕ) → (here ≡ true → t ≡ u) →
    cond here (cond b (cond on (f * ((u + 1) - w)) 0) 0) 0 ≤ cond here (cond (b && (on && nat_le w t)) (f * (u - w) + f) 0) 0
next_price true true true f u t w h = elim (cases_lt u w) [
  | inl over ↦ (let nothing : (u + 1) - w ≡ 0 = omega arith in rw nothing (omega arith))
  | inr under ↦ (let same : t ≡ u = h refl in
      let one : (u + 1) - w ≡ (u - w) + 1 = omega arith in
      rw (same, le-leb w u under, one) (omega arith))
]
next_price true true false f u t w h = omega arith
next_price true false on f u t w h = omega arith
next_price false b on f u t w h = omega arith

price_now : (here b on : Bool) (f u t w : ℕ) → cond here (cond (b && (on && nat_le w t)) (f * (u - w)) 0) 0 ≤ cond here (cond b (cond on (f * (u - w)) 0) 0) 0
price_now true true true f u t w = elim (cases_Bool (nat_le w t)) [ inl y ↦ rw y (omega arith) | inr n ↦ rw n (omega arith) ]
price_now true true false f u t w = omega arith
price_now true false on f u t w = omega arith
price_now false b on f u t w = omega arith

-- what is saved at the attractive arcs of a node, by weight
abbrev pub saved : NetworkData → List Bool → List ℕ → ℕ → ℕ
saved net reached labels node = sum_by (λ a. weight_of net a * (get_or labels node 0 - time_through net labels a)) (attractive_arcs net reached labels node)

abbrev pub combined : NetworkData → List Bool → List ℕ → ℕ → ℕ
combined net reached labels node = sum_by (weight_of net) (attractive_arcs net reached labels node)

pub within_k : (net : NetworkData) (destination : ℕ) (reached : List Bool) (labels : List ℕ) → SolvesLabels net destination reached labels →
    (node : ℕ) → node < net.nodes → node ≢ destination → is_reached reached node ≡ true → saved net reached labels node ≤ net.k
within_k net destination reached labels solved node lt away on =
    let label : ℕ = get_or labels node 0 in
    let price : ℕ → ℕ = λ a. weight_of net a * (label - time_through net labels a) in
    let permit = (solved.reaching node lt away on).permitted in
    let less : saved net reached labels node ≤ sum_by price (reaching_boardings net reached node) =
    rw (attractive_spread net reached labels price node, usable_spread net reached price node)
    (range_le _ _ 0 (length net.arcs) (λ a low high.
    price_now (tail_of net a == node) (is_boarding net a) (is_reached reached (head_of net a)) (weight_of net a) label (get_or labels (tail_of net a) 0) (time_through net labels a))) in
    let k = permit.boarding in
    omega arith

pub label_full : (net : NetworkData) (destination : ℕ) (reached : List Bool) (labels : List ℕ) → SolvesLabels net destination reached labels →
    (node : ℕ) → node < net.nodes → node ≢ destination → is_reached reached node ≡ true → filter (is_tight net reached labels) (out_arcs net node) ≡ [] →
    net.k < saved net reached labels node + combined net reached labels node
label_full net destination reached labels solved node lt away on slack =
    let label : ℕ = get_or labels node 0 in
    let price : ℕ → ℕ = λ a. weight_of net a * (label - time_through net labels a) in
    let next : ℕ → ℕ = λ a. weight_of net a * ((label + 1) - time_through net labels a) in
    let permit = (solved.reaching node lt away on).permitted in
    let most : sum_by next (reaching_boardings net reached node) ≤ saved net reached labels node + combined net reached labels node =
    rw (← sum_by-add price (weight_of net) (attractive_arcs net reached labels node), attractive_spread net reached labels (λ a. price a + weight_of net a) node, usable_spread net reached next node)
    (range_le _ _ 0 (length net.arcs) (λ a low high.
    next_price (tail_of net a == node) (is_boarding net a) (is_reached reached (head_of net a)) (weight_of net a) label (get_or labels (tail_of net a) 0) (time_through net labels a)
    (λ here. ap (λ j. get_or labels j 0) (eqb-true (tail_of net a) node here)))) in
    elim (cases_lt net.k (sum_by next (reaching_boardings net reached node))) [
      | inl over ↦ omega arith
      | inr under ↦ absurd (
          let more : label + 1 ≤ label = (solved.reaching node lt away on).greatest (label + 1) (record {
            free = λ a inside from goes free.
                let now : label ≤ time_through net labels a = permit.free a inside from goes free in
                let here : (tail_of net a == node) ≡ true = eq-eqb (tail_of net a) node from in
                let loose : is_tight net reached labels a ≡ false = none_pass (is_tight net reached labels) (λ b. tail_of net b == node) (length net.arcs) slack a inside here in
                let apart : time_through net labels a ≢ label = λ same. false≢true (sym loose ∙ and_from (not (is_boarding net a)) _ (not_from_false (is_boarding net a) free)
                (and_from (is_reached reached (head_of net a)) _ goes (eq-eqb (time_through net labels a) (get_or labels (tail_of net a) 0) (same ∙ ap (λ j. get_or labels j 0) (sym from))))) in
                omega arith;
            boarding = under;
          }) in
          omega arith)
    ]

-- some arc is attractive where passengers wait
pub some_weight : (net : NetworkData) (destination : ℕ) (reached : List Bool) (labels : List ℕ) → SolvesLabels net destination reached labels →
    (node : ℕ) → node < net.nodes → node ≢ destination → is_reached reached node ≡ true → filter (is_tight net reached labels) (out_arcs net node) ≡ [] → 0 < combined net reached labels node
some_weight net destination reached labels solved node lt away on slack = elim (cases_lt 0 (combined net reached labels node)) [
  | inl some ↦ some
  | inr none ↦ absurd (
      let k = within_k net destination reached labels solved node lt away on in
      let full = label_full net destination reached labels solved node lt away on slack in
      omega arith)
]
