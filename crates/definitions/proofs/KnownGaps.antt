-- Values worked out by hand, which the definitions of the gap give.
-- Three equal lines, of 18 departures together: a wait of 1800000000 / 18000 = 100000 ticks and the ride of 600000 make the label of 700000.
-- Two units cannot go evenly to three lines: the first two take one each, and wait 1800000000 / 6000 = 300000 ticks together.
use Rattle.std.proofs.Common.{◌≡◌, ◌≢◌, ℕ, zero, suc, ◌+◌, ◌*◌, ◌-◌, ◌<◌, ◌≤◌, Bool, List, [], ◌∷◌, refl, arith, lit≤, lit<, IsTrue}
use Rattle.std.specs.Prelude.{IsFalse, true, slice_index, sum_by, sum}
use Rattle.definitions.specs.declared.choice.Choice.TheVariants.{Wait}
use Rattle.definitions.specs.Network.{NetworkData, IsWellFormed, tail_of, head_of, cost_of, weight_of, is_boarding, node_numbers}
use Rattle.definitions.specs.Plan.{IsWaitedFor, cost_of_plan}
use Rattle.definitions.specs.Dual.{time_through, bound_of_labels}
use Rattle.definitions.specs.Reach.{is_reached}
use Rattle.definitions.specs.Labels.{Permits, IsGreatest, IsHighest, SolvesLabels}
use Rattle.definitions.specs.Choice.{choice_at}
use Rattle.definitions.specs.Volumes.{part_of, units_at, SolvesVolumes, IsLongEnough, AreLeastWaits, IsCarried}
use Rattle.definitions.specs.Totals.{boarding_stops, longest_wait, slack_of}
use Rattle.definitions.specs.Gap.{gap_at, cost_onward, IsEnoughForEach, IsLoaded}
use Rattle.definitions.proofs.KnownValues.{boarded}
use Rattle.definitions.proofs.KnownVolumes.{walk_beside_line, two_lines_reached, two_lines_labels, two_lines_demand}

abbrev pub three_lines : NetworkData
three_lines = record { nodes = 2; arcs = (boarded 0 1 600000 6000) ∷ (boarded 0 1 600000 6000) ∷ (boarded 0 1 600000 6000) ∷ []; k = 1800000000 }

abbrev pub three_lines_reached : List Bool
three_lines_reached = true ∷ true ∷ []

abbrev pub three_lines_labels : List ℕ
three_lines_labels = 700000 ∷ 0 ∷ []

abbrev pub three_lines_demand : List ℕ
three_lines_demand = 2 ∷ 0 ∷ []

abbrev pub three_lines_volumes : List ℕ
three_lines_volumes = 1 ∷ 1 ∷ 0 ∷ []

abbrev pub three_lines_waits : List ℕ
three_lines_waits = 300000 ∷ 0 ∷ []

-- ---- the values

three_lines-choice : choice_at three_lines 1 three_lines_reached three_lines_labels 0 ≡ Wait 3 18000
three_lines-choice = refl

-- 600000 for each unit, and the wait
three_lines-cost : cost_of_plan three_lines three_lines_volumes three_lines_waits ≡ 1500000
three_lines-cost = refl

-- the label for each unit
three_lines-bound : bound_of_labels three_lines_demand three_lines_labels ≡ 1400000
three_lines-bound = refl

three_lines-gap : cost_of_plan three_lines three_lines_volumes three_lines_waits ≡ bound_of_labels three_lines_demand three_lines_labels + 100000
three_lines-gap = refl

three_lines-onward : cost_onward three_lines three_lines_labels three_lines_volumes three_lines_waits 0 ≡ 1500000
three_lines-onward = refl

three_lines-longest : longest_wait three_lines ≡ 300000
three_lines-longest = refl

-- two units and twice 300000
three_lines-part : gap_at three_lines 1 three_lines_reached three_lines_labels three_lines_demand three_lines_volumes 300000 0 ≡ 600002
three_lines-part = refl

-- nobody waits at the destination
three_lines-no_part : gap_at three_lines 1 three_lines_reached three_lines_labels three_lines_demand three_lines_volumes 300000 1 ≡ 0
three_lines-no_part = refl

three_lines-parts_of_all : sum_by (gap_at three_lines 1 three_lines_reached three_lines_labels three_lines_demand three_lines_volumes 300000) (node_numbers three_lines) ≡ 600002
three_lines-parts_of_all = refl

three_lines-slack : slack_of (boarding_stops three_lines) (sum three_lines_demand) (longest_wait three_lines) 1 ≡ 600002
three_lines-slack = refl

-- a line passes the node, but passengers walk, and the node has no part
walk_beside_line-no_part : gap_at walk_beside_line 1 two_lines_reached two_lines_labels two_lines_demand (0 ∷ 10 ∷ 0 ∷ []) 300000 0 ≡ 0
walk_beside_line-no_part = refl

-- without units the node has no part, though the choice is to wait
three_lines-no_part_without_units : gap_at three_lines 1 three_lines_reached three_lines_labels (0 ∷ 0 ∷ []) (0 ∷ 0 ∷ 0 ∷ []) 300000 0 ≡ 0
three_lines-no_part_without_units = refl

-- ---- the three lines meet the conditions of the laws

three_lines-tails : (arc : ℕ) → arc < 3 → tail_of three_lines arc < 2
three_lines-tails zero lt = lit< tt
three_lines-tails (suc zero) lt = lit< tt
three_lines-tails (suc (suc zero)) lt = lit< tt
three_lines-tails (suc (suc (suc arc))) lt = absurd (omega arith)

three_lines-heads : (arc : ℕ) → arc < 3 → head_of three_lines arc < 2
three_lines-heads zero lt = lit< tt
three_lines-heads (suc zero) lt = lit< tt
three_lines-heads (suc (suc zero)) lt = lit< tt
three_lines-heads (suc (suc (suc arc))) lt = absurd (omega arith)

three_lines-costs : (arc : ℕ) → arc < 3 → 0 < cost_of three_lines arc
three_lines-costs zero lt = lit< tt
three_lines-costs (suc zero) lt = lit< tt
three_lines-costs (suc (suc zero)) lt = lit< tt
three_lines-costs (suc (suc (suc arc))) lt = absurd (omega arith)

three_lines-weights : (arc : ℕ) → arc < 3 → IsTrue (is_boarding three_lines arc) → 0 < weight_of three_lines arc
three_lines-weights zero lt here = lit< tt
three_lines-weights (suc zero) lt here = lit< tt
three_lines-weights (suc (suc zero)) lt here = lit< tt
three_lines-weights (suc (suc (suc arc))) lt here = absurd (omega arith)

pub three_lines-well_formed : IsWellFormed three_lines
three_lines-well_formed = record { tails = three_lines-tails; heads = three_lines-heads; costs = three_lines-costs; weights = three_lines-weights }

three_lines-free : (label arc : ℕ) → arc < 3 → tail_of three_lines arc ≡ 0 → IsTrue (is_reached three_lines_reached (head_of three_lines arc)) →
    IsFalse (is_boarding three_lines arc) → label ≤ time_through three_lines three_lines_labels arc
three_lines-free label zero lt leaves goes free = absurd cc
three_lines-free label (suc zero) lt leaves goes free = absurd cc
three_lines-free label (suc (suc zero)) lt leaves goes free = absurd cc
three_lines-free label (suc (suc (suc arc))) lt leaves goes free = absurd (omega arith)

three_lines-within : (label : ℕ) → 0 + 6000 * (label - 600000) + 6000 * (label - 600000) + 6000 * (label - 600000) ≤ 1800000000 → label ≤ 700000
three_lines-within label h = omega arith

three_lines-greatest : (label : ℕ) → Permits three_lines three_lines_reached three_lines_labels 0 label → label ≤ 700000
three_lines-greatest label p = three_lines-within label p.boarding

three_lines-reaching : (node : ℕ) → node < 2 → node ≢ 1 → IsTrue (is_reached three_lines_reached node) → IsGreatest three_lines three_lines_reached three_lines_labels node
three_lines-reaching zero lt ne here = record { permitted = record { free = three_lines-free 700000; boarding = lit≤ tt }; greatest = three_lines-greatest }
three_lines-reaching (suc zero) lt ne here = absurd (ne refl)
three_lines-reaching (suc (suc node)) lt ne here = absurd (omega arith)

three_lines-elsewhere : (node : ℕ) → node < 2 → IsFalse (is_reached three_lines_reached node) → IsHighest three_lines three_lines_reached three_lines_labels node
three_lines-elsewhere zero lt here = absurd cc
three_lines-elsewhere (suc zero) lt here = absurd cc
three_lines-elsewhere (suc (suc node)) lt here = absurd (omega arith)

pub three_lines-labels : SolvesLabels three_lines 1 three_lines_reached three_lines_labels
three_lines-labels = record { label_per_node = refl; zero_at_destination = refl; reaching = three_lines-reaching; elsewhere = three_lines-elsewhere }

three_lines-only_reaching : (node : ℕ) → node < 2 → IsFalse (is_reached three_lines_reached node) → slice_index three_lines_demand node ≡ 0
three_lines-only_reaching zero lt here = absurd cc
three_lines-only_reaching (suc zero) lt here = absurd cc
three_lines-only_reaching (suc (suc node)) lt here = absurd (omega arith)

pub three_lines-carried : IsCarried three_lines 1 three_lines_reached three_lines_demand
three_lines-carried = record { demand_per_node = refl; none_at_destination = refl; only_reaching = three_lines-only_reaching }

three_lines-parts : (arc : ℕ) → arc < 3 → slice_index three_lines_volumes arc ≡
    part_of three_lines three_lines_reached three_lines_labels (choice_at three_lines 1 three_lines_reached three_lines_labels (tail_of three_lines arc))
    (units_at three_lines three_lines_demand three_lines_volumes (tail_of three_lines arc)) arc
three_lines-parts zero lt = refl
three_lines-parts (suc zero) lt = refl
three_lines-parts (suc (suc zero)) lt = refl
three_lines-parts (suc (suc (suc arc))) lt = absurd (omega arith)

pub three_lines-volumes : SolvesVolumes three_lines 1 three_lines_reached three_lines_labels three_lines_demand three_lines_volumes
three_lines-volumes = record { volume_per_arc = refl; parts = three_lines-parts }

three_lines-waited : (arc : ℕ) → arc < 3 → IsTrue (is_boarding three_lines arc) → IsWaitedFor three_lines three_lines_volumes arc 300000
three_lines-waited zero lt here = lit≤ tt
three_lines-waited (suc zero) lt here = lit≤ tt
three_lines-waited (suc (suc zero)) lt here = lit≤ tt
three_lines-waited (suc (suc (suc arc))) lt here = absurd (omega arith)

three_lines-nothing_leaves : (arc : ℕ) → arc < 3 → tail_of three_lines arc ≡ 1 → ⊥
three_lines-nothing_leaves zero lt leaves = absurd cc
three_lines-nothing_leaves (suc zero) lt leaves = absurd cc
three_lines-nothing_leaves (suc (suc zero)) lt leaves = absurd cc
three_lines-nothing_leaves (suc (suc (suc arc))) lt leaves = absurd (omega arith)

three_lines-enough : (node : ℕ) → node < 2 → IsLongEnough three_lines three_lines_volumes node (slice_index three_lines_waits node)
three_lines-enough zero lt = λ arc within leaves here. three_lines-waited arc within here
three_lines-enough (suc zero) lt = λ arc within leaves here. absurd (three_lines-nothing_leaves arc within leaves)
three_lines-enough (suc (suc node)) lt = absurd (omega arith)

three_lines-no_shorter : (wait : ℕ) → 1800000000 * 1 ≤ 6000 * wait → 300000 ≤ wait
three_lines-no_shorter wait h = omega arith

three_lines-least : (node wait : ℕ) → node < 2 → IsLongEnough three_lines three_lines_volumes node wait → slice_index three_lines_waits node ≤ wait
three_lines-least zero wait lt long = three_lines-no_shorter wait (long 0 (omega arith) refl refl)
three_lines-least (suc zero) wait lt long = omega arith
three_lines-least (suc (suc node)) wait lt long = absurd (omega arith)

pub three_lines-waits : AreLeastWaits three_lines three_lines_volumes three_lines_waits
three_lines-waits = record { wait_per_node = refl; enough = three_lines-enough; least = three_lines-least }

three_lines-loaded : IsLoaded three_lines 1 three_lines_reached three_lines_labels three_lines_demand three_lines_volumes three_lines_waits
three_lines-loaded = record {
  well_formed = three_lines-well_formed;
  solves_labels = three_lines-labels;
  carried = three_lines-carried;
  solves_volumes = three_lines-volumes;
  least_waits = three_lines-waits;
}

three_lines-covers : (arc : ℕ) → arc < 3 → IsTrue (is_boarding three_lines arc) → 1800000000 ≤ 300000 * weight_of three_lines arc
three_lines-covers zero lt here = lit≤ tt
three_lines-covers (suc zero) lt here = lit≤ tt
three_lines-covers (suc (suc zero)) lt here = lit≤ tt
three_lines-covers (suc (suc (suc arc))) lt here = absurd (omega arith)

three_lines-longest_covers : IsEnoughForEach three_lines 300000
three_lines-longest_covers = three_lines-covers
