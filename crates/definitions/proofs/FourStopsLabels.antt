-- Values worked out by hand, which the definitions of labels, volumes and waits give: the four stops of Spiess and Florian 1989.
-- The savings of the lines at A, X and Y against their labels are 5 * 231 + 5 * 273, 5 * 132 + 2 * 930 and 2 * 630 + 10 * 126: all are k.
use Rattle.std.proofs.Common.{◌≡◌, ◌≢◌, ℕ, zero, suc, ◌+◌, ◌*◌, ◌-◌, ◌<◌, ◌≤◌, Bool, List, [], ◌∷◌, refl, sym, arith, lit≤, lit<, IsTrue}
use Rattle.std.specs.Prelude.{IsFalse, true, slice_index}
use Rattle.definitions.specs.Network.{tail_of, head_of, is_boarding}
use Rattle.definitions.specs.Dual.{time_through}
use Rattle.definitions.specs.Plan.{IsWaitedFor}
use Rattle.definitions.specs.Reach.{is_reached}
use Rattle.definitions.specs.Labels.{Permits, SolvesLabels}
use Rattle.definitions.specs.Choice.{choice_at}
use Rattle.definitions.specs.Volumes.{part_of, units_at, SolvesVolumes}
use Rattle.definitions.proofs.FourStops.{four_stops, four_stops_demand, four_stops_flows, four_stops_labels}

abbrev pub four_stops_reached : List Bool
four_stops_reached = true ∷ true ∷ true ∷ true ∷ true ∷ true ∷ []

within_a : (label : ℕ) → 0 + 5 * (label - 2100) + 5 * (label - 2058) ≤ 2520 → label ≤ 2331
within_a label h = omega arith

within_x : (label : ℕ) → 0 + 5 * (label - 1470) + 2 * (label - 672) ≤ 2520 → label ≤ 1602
within_x label h = omega arith

within_y : (label : ℕ) → 0 + 2 * (label - 336) + 10 * (label - 840) ≤ 2520 → label ≤ 966
within_y label h = omega arith

four_stops-greatest : (node label : ℕ) → node < 6 → node ≢ 3 → Permits four_stops four_stops_reached four_stops_labels node label →
    label ≤ slice_index four_stops_labels node
four_stops-greatest zero label lt ne p = within_a label p.boarding
four_stops-greatest (suc zero) label lt ne p = within_x label p.boarding
four_stops-greatest (suc (suc zero)) label lt ne p = within_y label p.boarding
four_stops-greatest (suc (suc (suc zero))) label lt ne p = absurd (ne refl)
four_stops-greatest (suc (suc (suc (suc zero)))) label lt ne p = p.free 7 (lit< tt) refl refl refl
four_stops-greatest (suc (suc (suc (suc (suc zero))))) label lt ne p = p.free 8 (lit< tt) refl refl refl
four_stops-greatest (suc (suc (suc (suc (suc (suc node)))))) label lt ne p = absurd (omega arith)

four_stops-below : (arc : ℕ) → arc < 10 → IsFalse (is_boarding four_stops arc) →
    slice_index four_stops_labels (tail_of four_stops arc) ≤ time_through four_stops four_stops_labels arc
four_stops-below zero lt here = absurd cc
four_stops-below (suc zero) lt here = absurd cc
four_stops-below (suc (suc zero)) lt here = absurd cc
four_stops-below (suc (suc (suc zero))) lt here = absurd cc
four_stops-below (suc (suc (suc (suc zero)))) lt here = absurd cc
four_stops-below (suc (suc (suc (suc (suc zero))))) lt here = absurd cc
four_stops-below (suc (suc (suc (suc (suc (suc zero)))))) lt here = lit≤ tt
four_stops-below (suc (suc (suc (suc (suc (suc (suc zero))))))) lt here = lit≤ tt
four_stops-below (suc (suc (suc (suc (suc (suc (suc (suc zero)))))))) lt here = lit≤ tt
four_stops-below (suc (suc (suc (suc (suc (suc (suc (suc (suc zero))))))))) lt here = lit≤ tt
four_stops-below (suc (suc (suc (suc (suc (suc (suc (suc (suc (suc arc)))))))))) lt here = absurd (omega arith)

four_stops-free : (node arc : ℕ) → arc < 10 → tail_of four_stops arc ≡ node → IsTrue (is_reached four_stops_reached (head_of four_stops arc)) →
    IsFalse (is_boarding four_stops arc) → slice_index four_stops_labels node ≤ time_through four_stops four_stops_labels arc
four_stops-free node arc lt leaves reached here = rw (sym leaves) (four_stops-below arc lt here)

four_stops-permitted : (node : ℕ) → node < 6 → node ≢ 3 → Permits four_stops four_stops_reached four_stops_labels node (slice_index four_stops_labels node)
four_stops-permitted zero lt ne = record { free = four_stops-free 0; boarding = lit≤ tt }
four_stops-permitted (suc zero) lt ne = record { free = four_stops-free 1; boarding = lit≤ tt }
four_stops-permitted (suc (suc zero)) lt ne = record { free = four_stops-free 2; boarding = lit≤ tt }
four_stops-permitted (suc (suc (suc zero))) lt ne = absurd (ne refl)
four_stops-permitted (suc (suc (suc (suc zero)))) lt ne = record { free = four_stops-free 4; boarding = lit≤ tt }
four_stops-permitted (suc (suc (suc (suc (suc zero))))) lt ne = record { free = four_stops-free 5; boarding = lit≤ tt }
four_stops-permitted (suc (suc (suc (suc (suc (suc node)))))) lt ne = absurd (omega arith)

four_stops-none_elsewhere : (node : ℕ) → node < 6 → IsFalse (is_reached four_stops_reached node) → ⊥
four_stops-none_elsewhere zero lt here = absurd cc
four_stops-none_elsewhere (suc zero) lt here = absurd cc
four_stops-none_elsewhere (suc (suc zero)) lt here = absurd cc
four_stops-none_elsewhere (suc (suc (suc zero))) lt here = absurd cc
four_stops-none_elsewhere (suc (suc (suc (suc zero)))) lt here = absurd cc
four_stops-none_elsewhere (suc (suc (suc (suc (suc zero))))) lt here = absurd cc
four_stops-none_elsewhere (suc (suc (suc (suc (suc (suc node)))))) lt here = omega arith

pub four_stops-labels : SolvesLabels four_stops 3 four_stops_reached four_stops_labels
four_stops-labels = record {
  label_per_node = refl;
  zero_at_destination = refl;
  reaching = λ node lt ne here. record { permitted = four_stops-permitted node lt ne; greatest = λ label. four_stops-greatest node label lt ne };
  elsewhere = λ node lt here. absurd (four_stops-none_elsewhere node lt here);
}

-- ---- 12 units from A: 6 and 6 over its lines, and those that come to Y split 1 to 5

four_stops-parts : (arc : ℕ) → arc < 10 → slice_index four_stops_flows arc ≡
    part_of four_stops four_stops_reached four_stops_labels (choice_at four_stops 3 four_stops_reached four_stops_labels (tail_of four_stops arc))
    (units_at four_stops four_stops_demand four_stops_flows (tail_of four_stops arc)) arc
four_stops-parts zero lt = refl
four_stops-parts (suc zero) lt = refl
four_stops-parts (suc (suc zero)) lt = refl
four_stops-parts (suc (suc (suc zero))) lt = refl
four_stops-parts (suc (suc (suc (suc zero)))) lt = refl
four_stops-parts (suc (suc (suc (suc (suc zero))))) lt = refl
four_stops-parts (suc (suc (suc (suc (suc (suc zero)))))) lt = refl
four_stops-parts (suc (suc (suc (suc (suc (suc (suc zero))))))) lt = refl
four_stops-parts (suc (suc (suc (suc (suc (suc (suc (suc zero)))))))) lt = refl
four_stops-parts (suc (suc (suc (suc (suc (suc (suc (suc (suc zero))))))))) lt = refl
four_stops-parts (suc (suc (suc (suc (suc (suc (suc (suc (suc (suc arc)))))))))) lt = absurd (omega arith)

pub four_stops-volumes : SolvesVolumes four_stops 3 four_stops_reached four_stops_labels four_stops_demand four_stops_flows
four_stops-volumes = record { volume_per_arc = refl; parts = four_stops-parts }

-- the waits cover 6 units on either line at A, and 1 unit and 5 units on the lines at Y; none is shorter
wait_at_a : (wait : ℕ) → IsWaitedFor four_stops four_stops_flows 0 wait → 3024 ≤ wait
wait_at_a wait h = omega arith

wait_at_y : (wait : ℕ) → IsWaitedFor four_stops four_stops_flows 4 wait → 1260 ≤ wait
wait_at_y wait h = omega arith
