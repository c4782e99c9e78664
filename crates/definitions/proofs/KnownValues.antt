-- Values worked out by hand, which the definitions give: lines of numbers, and a network of one line.
use Rattle.std.proofs.Common.{◌≡◌, ◌≢◌, ℕ, zero, suc, ◌<◌, ◌≤◌, List, [], ◌∷◌, None, Some, refl, arith, lit≤, lit<, IsTrue}
use Rattle.std.specs.Prelude.{IsFalse, codes, slice_index}
use Rattle.std.specs.Fmt.{digits}
use Rattle.definitions.specs.declared.arc.NetArc.{NetArc}
use Rattle.definitions.specs.Decimal.{number_line}
use Rattle.definitions.specs.Network.{NetworkData, IsWellFormed, boarding_arcs, tail_of, head_of, cost_of, weight_of, is_boarding}
use Rattle.definitions.specs.Plan.{IsPlan, Conserves, IsWaitedFor, cost_of_plan}
use Rattle.definitions.specs.Dual.{IsDualFeasible, time_through, weighted_savings, bound_of_labels}
use Rattle.definitions.specs.Totals.{boarding_stops, least_weight, longest_wait, slack_of}

-- a boarding arc, and a free one
abbrev pub boarded : ℕ → ℕ → ℕ → ℕ → NetArc
boarded tail head cost weight = record { tail = tail; head = head; cost = cost; weight = Some weight }

abbrev pub free : ℕ → ℕ → ℕ → NetArc
free tail head cost = record { tail = tail; head = head; cost = cost; weight = None }

-- `g 0`, and a line of several digits
zero_line : number_line (codes "g") 0 ≡ 103 ∷ 32 ∷ 48 ∷ 10 ∷ []
unfolding digits
zero_line = refl

digits_line : number_line (codes "u") 317142 ≡ codes "u 317142\n"
unfolding digits
digits_line = refl

-- ---- one line that runs seven times in the window, and one passenger

abbrev pub one_line : NetworkData
one_line = record {
  nodes = 2;
  arcs = (boarded 0 1 60000 7000) ∷ [];
  k = 1800000000;
}

abbrev pub one_line_demand : List ℕ
one_line_demand = 1 ∷ 0 ∷ []

abbrev pub one_line_flows : List ℕ
one_line_flows = 1 ∷ []

abbrev pub one_line_waits : List ℕ
one_line_waits = 257143 ∷ 0 ∷ []

abbrev pub one_line_labels : List ℕ
one_line_labels = 317142 ∷ 0 ∷ []

one_line-cost : cost_of_plan one_line one_line_flows one_line_waits ≡ 317143
one_line-cost = refl

one_line-bound : bound_of_labels one_line_demand one_line_labels ≡ 317142
one_line-bound = refl

one_line-stops : boarding_stops one_line ≡ 1
one_line-stops = refl

one_line-least : least_weight one_line ≡ 7000
one_line-least = refl

one_line-wait : longest_wait one_line ≡ 257143
one_line-wait = refl

one_line-slack : slack_of 1 1 257143 1 ≡ 514287
one_line-slack = refl

one_line-tails : (arc : ℕ) → arc < 1 → tail_of one_line arc < 2
one_line-tails zero lt = lit< tt
one_line-tails (suc arc) lt = absurd (omega arith)

one_line-heads : (arc : ℕ) → arc < 1 → head_of one_line arc < 2
one_line-heads zero lt = lit< tt
one_line-heads (suc arc) lt = absurd (omega arith)

one_line-costs : (arc : ℕ) → arc < 1 → 0 < cost_of one_line arc
one_line-costs zero lt = lit< tt
one_line-costs (suc arc) lt = absurd (omega arith)

one_line-weights : (arc : ℕ) → arc < 1 → IsTrue (is_boarding one_line arc) → 0 < weight_of one_line arc
one_line-weights zero lt here = lit< tt
one_line-weights (suc arc) lt here = absurd (omega arith)

pub one_line-well_formed : IsWellFormed one_line
one_line-well_formed = record { tails = one_line-tails; heads = one_line-heads; costs = one_line-costs; weights = one_line-weights }

one_line-conserved : (node : ℕ) → node < 2 → node ≢ 1 → Conserves one_line 1 one_line_demand one_line_flows node
one_line-conserved zero lt ne = refl
one_line-conserved (suc zero) lt ne = absurd (ne refl)
one_line-conserved (suc (suc node)) lt ne = absurd (omega arith)

one_line-waited : (arc : ℕ) → arc < 1 → IsTrue (is_boarding one_line arc) → IsWaitedFor one_line one_line_flows arc (slice_index one_line_waits (tail_of one_line arc))
one_line-waited zero lt here = lit≤ tt
one_line-waited (suc arc) lt here = absurd (omega arith)

pub one_line-plan : IsPlan one_line 1 1 one_line_demand one_line_flows one_line_waits
one_line-plan = record { flow_per_arc = refl; wait_per_node = refl; conserved = one_line-conserved; waited_for = one_line-waited }

-- a wait that is one too short
one_line-short : IsWaitedFor one_line one_line_flows 0 257142 → ⊥
one_line-short h = omega arith

one_line-free : (arc : ℕ) → arc < 1 → tail_of one_line arc ≢ 1 → IsFalse (is_boarding one_line arc) → slice_index one_line_labels (tail_of one_line arc) ≤ time_through one_line one_line_labels arc
one_line-free zero lt ne here = absurd cc
one_line-free (suc arc) lt ne here = absurd (omega arith)

one_line-savings : (node : ℕ) → node < 2 → node ≢ 1 → weighted_savings one_line one_line_labels (boarding_arcs one_line node) (slice_index one_line_labels node) ≤ 1800000000
one_line-savings zero lt ne = lit≤ tt
one_line-savings (suc zero) lt ne = lit≤ tt
one_line-savings (suc (suc node)) lt ne = absurd (omega arith)

pub one_line-dual : IsDualFeasible one_line 1 one_line_labels
one_line-dual = record { label_per_node = refl; zero_at_destination = refl; free_arcs = one_line-free; boarding = one_line-savings }

-- ---- what is no plan, and what is not dual feasible

not_one : (n : ℕ) → n ≡ 0 → n ≡ 1 → ⊥
not_one n none one = omega arith

-- a passenger who stays
one_line-lost : Conserves one_line 1 one_line_demand (0 ∷ []) 0 → ⊥
one_line-lost conserves = not_one 0 refl conserves

too_much : 1800001000 ≤ 1800000000 → ⊥
too_much h = omega arith

starts : (n : ℕ) → n ≡ 0 → n ≢ 1
starts n none one = not_one n none one

-- a label that is one too high: 7000 * (317143 - 60000) is above k
one_line-too_high : IsDualFeasible one_line 1 (317143 ∷ 0 ∷ []) → ⊥
one_line-too_high dual = too_much (dual.boarding 0 (lit< tt) (starts 0 refl))

-- a label at the destination
one_line-not_zero : IsDualFeasible one_line 1 (317142 ∷ 1 ∷ []) → ⊥
one_line-not_zero dual = not_one (slice_index (317142 ∷ 1 ∷ []) 1) dual.zero_at_destination refl

abbrev pub one_walk : NetworkData
one_walk = record { nodes = 2; arcs = (free 0 1 5) ∷ []; k = 0 }

six_above_five : 6 ≤ 5 → ⊥
six_above_five h = omega arith

-- a label above what a free arc leads to
one_walk-too_high : IsDualFeasible one_walk 1 (6 ∷ 0 ∷ []) → ⊥
one_walk-too_high dual = six_above_five (dual.free_arcs 0 (lit< tt) (starts 0 refl) refl)
