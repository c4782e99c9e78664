-- Values worked out by hand, which the definitions give: the four stops of Spiess and Florian 1989.
-- Stops A, X, Y, B are nodes 0 to 3, and lines in between nodes 4 and 5; 84 ticks stand for a minute, a wait is one mean headway,
-- a departure a minute weighs 30, and an alighting costs 1 tick. 12 units go from A to B, and expect 27.75 minutes each.
use Rattle.std.proofs.Common.{◌≡◌, ◌≢◌, ℕ, zero, suc, ◌<◌, ◌≤◌, List, [], ◌∷◌, refl, arith, lit≤, lit<, IsTrue}
use Rattle.std.specs.Prelude.{IsFalse, slice_index}
use Rattle.definitions.specs.Network.{NetworkData, IsWellFormed, boarding_arcs, tail_of, head_of, cost_of, weight_of, is_boarding}
use Rattle.definitions.specs.Plan.{IsPlan, Conserves, IsWaitedFor, cost_of_plan}
use Rattle.definitions.specs.Dual.{IsDualFeasible, time_through, weighted_savings, bound_of_labels}
use Rattle.definitions.specs.Totals.{boarding_stops, least_weight, longest_wait, slack_of}
use Rattle.definitions.proofs.KnownValues.{boarded, free}

abbrev pub four_stops : NetworkData
four_stops = record {
  nodes = 6;
  arcs = (boarded 0 3 2100 5) ∷ (boarded 0 4 588 5) ∷ (boarded 1 2 504 5) ∷ (boarded 1 5 336 2) ∷ (boarded 2 3 336 2) ∷ (boarded 2 3 840 10) ∷ (free 4 1 1) ∷ (free 4 2 504) ∷ (free 5 3 336) ∷ (free 5 2 1) ∷ [];
  k = 2520;
}

abbrev pub four_stops_demand : List ℕ
four_stops_demand = 12 ∷ 0 ∷ 0 ∷ 0 ∷ 0 ∷ 0 ∷ []

abbrev pub four_stops_flows : List ℕ
four_stops_flows = 6 ∷ 6 ∷ 0 ∷ 0 ∷ 1 ∷ 5 ∷ 0 ∷ 6 ∷ 0 ∷ 0 ∷ []

abbrev pub four_stops_waits : List ℕ
four_stops_waits = 3024 ∷ 0 ∷ 1260 ∷ 0 ∷ 0 ∷ 0 ∷ []

abbrev pub four_stops_labels : List ℕ
four_stops_labels = 2331 ∷ 1602 ∷ 966 ∷ 0 ∷ 1470 ∷ 336 ∷ []

four_stops-cost : cost_of_plan four_stops four_stops_flows four_stops_waits ≡ 27972
four_stops-cost = refl

four_stops-bound : bound_of_labels four_stops_demand four_stops_labels ≡ 27972
four_stops-bound = refl

four_stops-stops : boarding_stops four_stops ≡ 3
four_stops-stops = refl

four_stops-least : least_weight four_stops ≡ 2
four_stops-least = refl

four_stops-wait : longest_wait four_stops ≡ 1260
four_stops-wait = refl

four_stops-slack : slack_of 3 12 1260 1 ≡ 7596
four_stops-slack = refl

four_stops-tails : (arc : ℕ) → arc < 10 → tail_of four_stops arc < 6
four_stops-tails zero lt = lit< tt
four_stops-tails (suc zero) lt = lit< tt
four_stops-tails (suc (suc zero)) lt = lit< tt
four_stops-tails (suc (suc (suc zero))) lt = lit< tt
four_stops-tails (suc (suc (suc (suc zero)))) lt = lit< tt
four_stops-tails (suc (suc (suc (suc (suc zero))))) lt = lit< tt
four_stops-tails (suc (suc (suc (suc (suc (suc zero)))))) lt = lit< tt
four_stops-tails (suc (suc (suc (suc (suc (suc (suc zero))))))) lt = lit< tt
four_stops-tails (suc (suc (suc (suc (suc (suc (suc (suc zero)))))))) lt = lit< tt
four_stops-tails (suc (suc (suc (suc (suc (suc (suc (suc (suc zero))))))))) lt = lit< tt
four_stops-tails (suc (suc (suc (suc (suc (suc (suc (suc (suc (suc arc)))))))))) lt = absurd (omega arith)

four_stops-heads : (arc : ℕ) → arc < 10 → head_of four_stops arc < 6
four_stops-heads zero lt = lit< tt
four_stops-heads (suc zero) lt = lit< tt
four_stops-heads (suc (suc zero)) lt = lit< tt
four_stops-heads (suc (suc (suc zero))) lt = lit< tt
four_stops-heads (suc (suc (suc (suc zero)))) lt = lit< tt
four_stops-heads (suc (suc (suc (suc (suc zero))))) lt = lit< tt
four_stops-heads (suc (suc (suc (suc (suc (suc zero)))))) lt = lit< tt
four_stops-heads (suc (suc (suc (suc (suc (suc (suc zero))))))) lt = lit< tt
four_stops-heads (suc (suc (suc (suc (suc (suc (suc (suc zero)))))))) lt = lit< tt
four_stops-heads (suc (suc (suc (suc (suc (suc (suc (suc (suc zero))))))))) lt = lit< tt
four_stops-heads (suc (suc (suc (suc (suc (suc (suc (suc (suc (suc arc)))))))))) lt = absurd (omega arith)

four_stops-costs : (arc : ℕ) → arc < 10 → 0 < cost_of four_stops arc
four_stops-costs zero lt = lit< tt
four_stops-costs (suc zero) lt = lit< tt
four_stops-costs (suc (suc zero)) lt = lit< tt
four_stops-costs (suc (suc (suc zero))) lt = lit< tt
four_stops-costs (suc (suc (suc (suc zero)))) lt = lit< tt
four_stops-costs (suc (suc (suc (suc (suc zero))))) lt = lit< tt
four_stops-costs (suc (suc (suc (suc (suc (suc zero)))))) lt = lit< tt
four_stops-costs (suc (suc (suc (suc (suc (suc (suc zero))))))) lt = lit< tt
four_stops-costs (suc (suc (suc (suc (suc (suc (suc (suc zero)))))))) lt = lit< tt
four_stops-costs (suc (suc (suc (suc (suc (suc (suc (suc (suc zero))))))))) lt = lit< tt
four_stops-costs (suc (suc (suc (suc (suc (suc (suc (suc (suc (suc arc)))))))))) lt = absurd (omega arith)

four_stops-weights : (arc : ℕ) → arc < 10 → IsTrue (is_boarding four_stops arc) → 0 < weight_of four_stops arc
four_stops-weights zero lt here = lit< tt
four_stops-weights (suc zero) lt here = lit< tt
four_stops-weights (suc (suc zero)) lt here = lit< tt
four_stops-weights (suc (suc (suc zero))) lt here = lit< tt
four_stops-weights (suc (suc (suc (suc zero)))) lt here = lit< tt
four_stops-weights (suc (suc (suc (suc (suc zero))))) lt here = lit< tt
four_stops-weights (suc (suc (suc (suc (suc (suc zero)))))) lt here = absurd cc
four_stops-weights (suc (suc (suc (suc (suc (suc (suc zero))))))) lt here = absurd cc
four_stops-weights (suc (suc (suc (suc (suc (suc (suc (suc zero)))))))) lt here = absurd cc
four_stops-weights (suc (suc (suc (suc (suc (suc (suc (suc (suc zero))))))))) lt here = absurd cc
four_stops-weights (suc (suc (suc (suc (suc (suc (suc (suc (suc (suc arc)))))))))) lt here = absurd (omega arith)

pub four_stops-well_formed : IsWellFormed four_stops
four_stops-well_formed = record { tails = four_stops-tails; heads = four_stops-heads; costs = four_stops-costs; weights = four_stops-weights }

four_stops-conserved : (node : ℕ) → node < 6 → node ≢ 3 → Conserves four_stops 1 four_stops_demand four_stops_flows node
four_stops-conserved zero lt ne = refl
four_stops-conserved (suc zero) lt ne = refl
four_stops-conserved (suc (suc zero)) lt ne = refl
four_stops-conserved (suc (suc (suc zero))) lt ne = absurd (ne refl)
four_stops-conserved (suc (suc (suc (suc zero)))) lt ne = refl
four_stops-conserved (suc (suc (suc (suc (suc zero))))) lt ne = refl
four_stops-conserved (suc (suc (suc (suc (suc (suc node)))))) lt ne = absurd (omega arith)

four_stops-waited : (arc : ℕ) → arc < 10 → IsTrue (is_boarding four_stops arc) → IsWaitedFor four_stops four_stops_flows arc (slice_index four_stops_waits (tail_of four_stops arc))
four_stops-waited zero lt here = lit≤ tt
four_stops-waited (suc zero) lt here = lit≤ tt
four_stops-waited (suc (suc zero)) lt here = lit≤ tt
four_stops-waited (suc (suc (suc zero))) lt here = lit≤ tt
four_stops-waited (suc (suc (suc (suc zero)))) lt here = lit≤ tt
four_stops-waited (suc (suc (suc (suc (suc zero))))) lt here = lit≤ tt
four_stops-waited (suc (suc (suc (suc (suc (suc zero)))))) lt here = absurd cc
four_stops-waited (suc (suc (suc (suc (suc (suc (suc zero))))))) lt here = absurd cc
four_stops-waited (suc (suc (suc (suc (suc (suc (suc (suc zero)))))))) lt here = absurd cc
four_stops-waited (suc (suc (suc (suc (suc (suc (suc (suc (suc zero))))))))) lt here = absurd cc
four_stops-waited (suc (suc (suc (suc (suc (suc (suc (suc (suc (suc arc)))))))))) lt here = absurd (omega arith)

pub four_stops-plan : IsPlan four_stops 3 1 four_stops_demand four_stops_flows four_stops_waits
four_stops-plan = record { flow_per_arc = refl; wait_per_node = refl; conserved = four_stops-conserved; waited_for = four_stops-waited }

-- a fractional solution for one unit: twelfths of these flows
four_stops-twelfths : (node : ℕ) → node < 6 → node ≢ 3 → Conserves four_stops 12 (1 ∷ 0 ∷ 0 ∷ 0 ∷ 0 ∷ 0 ∷ []) four_stops_flows node
four_stops-twelfths zero lt ne = refl
four_stops-twelfths (suc zero) lt ne = refl
four_stops-twelfths (suc (suc zero)) lt ne = refl
four_stops-twelfths (suc (suc (suc zero))) lt ne = absurd (ne refl)
four_stops-twelfths (suc (suc (suc (suc zero)))) lt ne = refl
four_stops-twelfths (suc (suc (suc (suc (suc zero))))) lt ne = refl
four_stops-twelfths (suc (suc (suc (suc (suc (suc node)))))) lt ne = absurd (omega arith)

four_stops-free : (arc : ℕ) → arc < 10 → tail_of four_stops arc ≢ 3 → IsFalse (is_boarding four_stops arc) → slice_index four_stops_labels (tail_of four_stops arc) ≤ time_through four_stops four_stops_labels arc
four_stops-free zero lt ne here = absurd cc
four_stops-free (suc zero) lt ne here = absurd cc
four_stops-free (suc (suc zero)) lt ne here = absurd cc
four_stops-free (suc (suc (suc zero))) lt ne here = absurd cc
four_stops-free (suc (suc (suc (suc zero)))) lt ne here = absurd cc
four_stops-free (suc (suc (suc (suc (suc zero))))) lt ne here = absurd cc
four_stops-free (suc (suc (suc (suc (suc (suc zero)))))) lt ne here = lit≤ tt
four_stops-free (suc (suc (suc (suc (suc (suc (suc zero))))))) lt ne here = lit≤ tt
four_stops-free (suc (suc (suc (suc (suc (suc (suc (suc zero)))))))) lt ne here = lit≤ tt
four_stops-free (suc (suc (suc (suc (suc (suc (suc (suc (suc zero))))))))) lt ne here = lit≤ tt
four_stops-free (suc (suc (suc (suc (suc (suc (suc (suc (suc (suc arc)))))))))) lt ne here = absurd (omega arith)

four_stops-savings : (node : ℕ) → node < 6 → node ≢ 3 → weighted_savings four_stops four_stops_labels (boarding_arcs four_stops node) (slice_index four_stops_labels node) ≤ 2520
four_stops-savings zero lt ne = lit≤ tt
four_stops-savings (suc zero) lt ne = lit≤ tt
four_stops-savings (suc (suc zero)) lt ne = lit≤ tt
four_stops-savings (suc (suc (suc zero))) lt ne = lit≤ tt
four_stops-savings (suc (suc (suc (suc zero)))) lt ne = lit≤ tt
four_stops-savings (suc (suc (suc (suc (suc zero))))) lt ne = lit≤ tt
four_stops-savings (suc (suc (suc (suc (suc (suc node)))))) lt ne = absurd (omega arith)

pub four_stops-dual : IsDualFeasible four_stops 3 four_stops_labels
four_stops-dual = record { label_per_node = refl; zero_at_destination = refl; free_arcs = four_stops-free; boarding = four_stops-savings }
