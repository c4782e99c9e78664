-- The laws of the gap: node by node, summed over the nodes, and within the slack.
use Rattle.std.proofs.Common.{◌≡◌, ℕ, ◌+◌, ◌*◌, ◌<◌, ◌≤◌, Bool, true, false, ◌&&◌, cond, List, [], length, refl, ◌∙◌, ap, arith, inl, inr, get_or}
use Rattle.std.specs.Bool.{nat_lt, nat_le}
use Rattle.std.specs.List.{sum_by, sum, range_with_len}
use Rattle.std.proofs.lemmas.List.{nil_from_length}
use Rattle.std.proofs.lemmas.List.Sums.{get_or-le-sum_by}
use Rattle.std.proofs.lemmas.Bool.Decides.{eqb_tells}
use Rattle.std.proofs.lemmas.Bool.{cases_lt, lt-ltb, le-ltb, false≢true}
use Rattle.definitions.specs.Network.{NetworkData, tail_of, head_of, cost_of, weight_of, is_boarding, arc_numbers, node_numbers, out_arcs, boarding_arcs}
use Rattle.definitions.specs.Plan.{flow_into}
use Rattle.definitions.specs.Reach.{is_reached}
use Rattle.definitions.specs.Dual.{time_through, saving, bound_of_labels}
use Rattle.definitions.specs.Labels.{SolvesLabels}
use Rattle.definitions.specs.declared.choice.Choice.{Choice}
use Rattle.definitions.specs.declared.choice.Choice.TheVariants.{Stop, Walk, Wait}
use Rattle.definitions.specs.Choice.{is_attractive, choice_at}
use Rattle.definitions.specs.Volumes.{part_of, units_at}
use Rattle.definitions.specs.Totals.{boarding_stops, longest_wait}
use Rattle.definitions.specs.Gap.{is_to_wait, gap_at, NodeIsWithinItsPart, GapIsWithinNodes, GapIsWithinSlack, NoUnitsCostNothing}
use Rattle.definitions.proofs.Sums.{sum_by-filter, sum_by-add, sum_by-scale, sum_by-same, sum_by-none, range_le, range_same, gathered}
use Rattle.definitions.proofs.DualityLemmas.{places}
use Rattle.definitions.proofs.TotalsLemmas.{longest_wait-enough}
use Rattle.definitions.proofs.ChoiceLemmas.{IsChosen, waits, chosen}
use Rattle.definitions.proofs.WaitingLemmas.{combined, some_weight}
use Rattle.definitions.proofs.VolumeLemmas.{carries, conserves}
use Rattle.definitions.proofs.UnitLemmas.{units_are_within_demand}
use Rattle.definitions.proofs.NodeGapLemmas.{out_le, earned, wait_within}

-- ---- one node

-- volumes leave only by arcs that lead on, so what they cost and what they save make the label, and the wait is within what they save and the part
pub node_is_within_its_part : NodeIsWithinItsPart
node_is_within_its_part net destination reached labels demand volumes waited longest loaded enough node lt =
    let label : ℕ = get_or labels node 0 in
    let units : ℕ = units_at net demand volumes node in
    let onward : ℕ → ℕ = λ a. time_through net labels a * get_or volumes a 0 in
    let save : ℕ → ℕ = λ a. saving net labels label a * get_or volumes a 0 in
    let sent : ℕ = sum_by (λ a. get_or volumes a 0) (out_arcs net node) in
    let each : sum_by onward (out_arcs net node) + sum_by save (out_arcs net node) ≤ label * sent =
    rw (← sum_by-add onward save (out_arcs net node), sum_by-scale label (λ a. get_or volumes a 0) (out_arcs net node))
    (out_le net node (λ a. onward a + save a) (λ a. label * get_or volumes a 0)
    (λ a inside from. elim (carries net destination reached labels demand volumes loaded.solves_volumes a inside) [
      | inl idle ↦ rw idle (omega arith)
      | inr on ↦ (
          let fast = on.fast in
          let here : get_or labels (tail_of net a) 0 ≡ label = ap (λ j. get_or labels j 0) from in
          let parts : time_through net labels a + saving net labels label a ≡ label = omega arith in
          let times : (time_through net labels a + saving net labels label a) * get_or volumes a 0 ≡ label * get_or volumes a 0 = ap (λ t. t * get_or volumes a 0) parts in
          omega arith)
    ])) in
    let held : get_or waited node 0 ≤ earned net labels volumes node + gap_at net destination reached labels demand volumes longest node =
    wait_within net destination reached labels volumes waited longest loaded.well_formed loaded.solves_labels enough loaded.least_waits
    node lt units (choice_at net destination reached labels node) (chosen net destination reached labels node)
    (λ a inside from. loaded.solves_volumes.parts a inside ∙ ap (λ j. part_of net reached labels (choice_at net destination reached labels j) (units_at net demand volumes j) a) from) in
    elim (eqb_tells node destination) [
      | inl w ↦ (
          let zero_label : label ≡ 0 = ap (λ j. get_or labels j 0) w.1 ∙ loaded.solves_labels.zero_at_destination in
          let nothing : label * sent ≡ 0 = rw zero_label (omega arith) in
          omega arith)
      | inr w ↦ (
          let all : sent ≡ units = conserves net destination reached labels demand volumes loaded.solves_labels loaded.solves_volumes loaded.carried node lt w.1 in
          let times : label * sent ≡ units * label = rw all (omega arith) in
          omega arith)
    ]

-- ---- the sum over nodes

-- over all nodes, what the heads' labels are worth stands on both sides
pub gap_within_nodes : GapIsWithinNodes
gap_within_nodes net destination reached labels demand volumes waited longest loaded enough =
    let nodes : List ℕ = node_numbers net in
    let arcs : List ℕ = arc_numbers net in
    let extra : ℕ → ℕ = gap_at net destination reached labels demand volumes longest in
    let travel : ℕ → ℕ = λ a. cost_of net a * get_or volumes a 0 in
    let there : ℕ → ℕ = λ a. get_or labels (head_of net a) 0 * get_or volumes a 0 in
    let onward : ℕ → ℕ = λ a. time_through net labels a * get_or volumes a 0 in
    let out : ℕ → ℕ = λ i. sum_by onward (out_arcs net i) in
    let due : ℕ → ℕ = λ i. get_or demand i 0 * get_or labels i 0 in
    let come : ℕ → ℕ = λ i. get_or labels i 0 * flow_into net volumes i in
    let each : sum_by out nodes + sum_by (λ i. get_or waited i 0) nodes ≤ sum_by due nodes + sum_by come nodes + sum_by extra nodes =
    rw (
      ← sum_by-add out (λ i. get_or waited i 0) nodes,
      ← sum_by-add due come nodes,
      ← sum_by-add (λ i. due i + come i) extra nodes,
    )
    (range_le (λ i. out i + get_or waited i 0) (λ i. due i + come i + extra i) 0 net.nodes (λ i low high.
    let node = node_is_within_its_part net destination reached labels demand volumes waited longest loaded enough i (omega arith) in
    omega arith)) in
    let left : sum_by out nodes ≡ sum_by travel arcs + sum_by there arcs =
    sum_by-same out (λ i. 1 * out i) nodes (λ i. omega arith)
    ∙ gathered net.nodes (length net.arcs) (tail_of net) (λ _. 1) onward loaded.well_formed.tails
    ∙ sum_by-same (λ a. 1 * onward a) (λ a. travel a + there a) arcs (λ a. omega arith)
    ∙ sum_by-add travel there arcs in
    let come_in : sum_by come nodes ≡ sum_by there arcs =
    gathered net.nodes (length net.arcs) (head_of net) (λ i. get_or labels i 0) (λ a. get_or volumes a 0) loaded.well_formed.heads in
    let bound : sum_by due nodes ≡ bound_of_labels demand labels = rw (loaded.carried.demand_per_node) refl in
    let listed : sum_by (λ i. get_or waited i 0) nodes ≡ sum waited =
    rw (← loaded.least_waits.wait_per_node) (places (λ i. get_or waited i 0) 0 waited (λ i lt. ap (λ j. get_or waited j 0) (let z : 0 + i ≡ i = omega arith in z))) in
    omega arith

-- ---- the slack

-- a node where the choice is to wait has a boarding arc
has_boarding : (net : NetworkData) (destination : ℕ) (reached : List Bool) (labels : List ℕ) → SolvesLabels net destination reached labels →
    (node : ℕ) → node < net.nodes → (c : Choice) → IsChosen net destination reached labels node c → is_to_wait c ≡ true →
    nat_lt 0 (length (boarding_arcs net node)) ≡ true
has_boarding net destination reached labels solved node lt Stop ch w = absurd (false≢true w)
has_boarding net destination reached labels solved node lt (Walk b) ch w = absurd (false≢true w)
has_boarding net destination reached labels solved node lt (Wait _ _) (waits away on slack) w =
    let some : 0 < combined net reached labels node = some_weight net destination reached labels solved node lt away on slack in
    let all : ℕ = sum_by (weight_of net) (boarding_arcs net node) in
    let more : combined net reached labels node ≤ all =
    rw (
      sum_by-filter (weight_of net) (is_attractive net reached labels) (out_arcs net node),
      sum_by-filter (weight_of net) (is_boarding net) (out_arcs net node),
    )
    (out_le net node (λ a. cond (is_attractive net reached labels a) (weight_of net a) 0) (λ a. cond (is_boarding net a) (weight_of net a) 0)
    (λ a inside from. part (is_boarding net a) (is_reached reached (head_of net a) && nat_le (time_through net labels a) (get_or labels (tail_of net a) 0)) (weight_of net a))) in
    elim (cases_lt 0 (length (boarding_arcs net node))) [
      | inl pos ↦ lt-ltb 0 (length (boarding_arcs net node)) pos
      | inr none ↦ absurd (
          let empty : boarding_arcs net node ≡ [] = nil_from_length (boarding_arcs net node) (omega arith) in
          let nothing : all ≡ 0 = ap (sum_by (weight_of net)) empty in
          omega arith)
    ]
  where
    part : (b more : Bool) (w : ℕ) → cond (b && more) w 0 ≤ cond b w 0
    part true true w = omega arith
    part true false w = omega arith
    part false more w = omega arith

-- a part is at most the units of the demand and twice the wait, and only nodes with a boarding arc have one
pub gap_within_slack : GapIsWithinSlack
gap_within_slack net destination reached labels demand volumes waited longest loaded enough =
    let gap = gap_within_nodes net destination reached labels demand volumes waited longest loaded enough in
    let most : ℕ = sum demand + 2 * longest in
    let boards : ℕ → Bool = λ i. nat_lt 0 (length (boarding_arcs net i)) in
    let each : sum_by (gap_at net destination reached labels demand volumes longest) (node_numbers net) ≤ most * boarding_stops net =
    rw (sum_by-scale most (λ i. cond (boards i) 1 0) (node_numbers net))
    (range_le (gap_at net destination reached labels demand volumes longest) (λ i. most * cond (boards i) 1 0) 0 net.nodes (λ i low high.
    one (is_to_wait (choice_at net destination reached labels i)) (boards i) (nat_lt 0 (units_at net demand volumes i)) (units_at net demand volumes i) (sum demand) longest
    (has_boarding net destination reached labels loaded.solves_labels i (omega arith) (choice_at net destination reached labels i) (chosen net destination reached labels i))
    (units_are_within_demand net destination reached labels demand volumes loaded.well_formed loaded.solves_labels loaded.carried loaded.solves_volumes i (omega arith)))) in
    omega arith
  where
    one : (w b p : Bool) (n m h : ℕ) → (w ≡ true → b ≡ true) → n ≤ m → cond (w && p) (n + 2 * h) 0 ≤ (m + 2 * h) * cond b 1 0
    one true b true n m h yes' le = rw (yes' refl) (omega arith)
    one true b false n m h yes' le = omega arith
    one false b p n m h yes' le = omega arith

-- ---- no units

-- the bound has no term, and no node has a part
pub no_units_cost_nothing : NoUnitsCostNothing
no_units_cost_nothing net destination reached labels demand volumes waited loaded none =
    let longest : ℕ = longest_wait net in
    let gap = gap_within_nodes net destination reached labels demand volumes waited longest loaded
    (λ arc lt boards. longest_wait-enough net arc loaded.well_formed lt boards) in
    let bound : bound_of_labels demand labels ≡ 0 =
    range_same (λ i. get_or demand i 0 * get_or labels i 0) (λ _. 0) 0 (length demand) (λ i low high.
    let within : get_or demand i 0 ≤ sum demand = get_or-le-sum_by (λ x. x) demand i 0 (omega arith) in
    let nothing : get_or demand i 0 ≡ 0 = omega arith in
    rw nothing (omega arith))
    ∙ sum_by-none (range_with_len 0 (length demand)) in
    let parts : sum_by (gap_at net destination reached labels demand volumes longest) (node_numbers net) ≡ 0 =
    range_same (gap_at net destination reached labels demand volumes longest) (λ _. 0) 0 net.nodes (λ i low high.
    let within = units_are_within_demand net destination reached labels demand volumes loaded.well_formed loaded.solves_labels loaded.carried loaded.solves_volumes i (omega arith) in
    rw (le-ltb 0 (units_at net demand volumes i) (omega arith)) (empty (is_to_wait (choice_at net destination reached labels i)) _))
    ∙ sum_by-none (node_numbers net) in
    (omega arith, bound)
  where
    empty : (w : Bool) (n : ℕ) → cond (w && false) n 0 ≡ 0
    empty true n = refl
    empty false n = refl
