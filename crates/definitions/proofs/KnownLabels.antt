-- Values worked out by hand, which the definitions of reach and labels give.
use Rattle.std.proofs.Common.{◌≡◌, ◌≢◌, ℕ, zero, suc, ◌+◌, ◌*◌, ◌-◌, ◌<◌, ◌≤◌, ◌↔◌, Bool, List, [], ◌∷◌, refl, sym, arith, lit≤, lit<, IsTrue, inl, inr}
use Rattle.std.specs.Prelude.{IsFalse, true, false, slice_index}
use Rattle.definitions.specs.Network.{NetworkData, tail_of, head_of, is_boarding}
use Rattle.definitions.specs.Dual.{time_through}
use Rattle.definitions.specs.Reach.{IsPath, Reaches, IsReach, is_reached}
use Rattle.definitions.specs.Labels.{Permits, IsGreatest, IsHighest, SolvesLabels, StandsBefore, IsOrder}
use Rattle.definitions.proofs.KnownValues.{boarded, free}

-- ---- a line from node 0 to node 1, and a node 2 from which none leads on
-- A wait of 1800000000 / 7000 ticks, rounded down, and the ride of 60000: 257142 + 60000.

abbrev pub cut_off : NetworkData
cut_off = record { nodes = 3; arcs = (boarded 0 1 60000 7000) ∷ []; k = 1800000000 }

abbrev pub cut_off_reached : List Bool
cut_off_reached = true ∷ true ∷ false ∷ []

abbrev pub cut_off_labels : List ℕ
cut_off_labels = 317142 ∷ 0 ∷ 317142 ∷ []

no_way : (path : List ℕ) → IsPath cut_off 1 2 path → ⊥
no_way [] p = absurd cc
no_way (zero ∷ path) p = absurd cc
no_way (suc arc ∷ path) p = absurd (omega arith)

cut_off-exact : (node : ℕ) → node < 3 → IsTrue (is_reached cut_off_reached node) ↔ Reaches cut_off 1 node
cut_off-exact zero lt = ((λ _. (0 ∷ [], (lit< tt, refl, refl))), (λ _. refl))
cut_off-exact (suc zero) lt = ((λ _. ([], refl)), (λ _. refl))
cut_off-exact (suc (suc zero)) lt = ((λ t. absurd cc), (λ w. absurd (no_way w.0 w.1)))
cut_off-exact (suc (suc (suc node))) lt = absurd (omega arith)

pub cut_off-reach : IsReach cut_off 1 cut_off_reached
cut_off-reach = record { mark_per_node = refl; exact = cut_off-exact }

cut_off-free : (label arc : ℕ) → arc < 1 → tail_of cut_off arc ≡ 0 → IsTrue (is_reached cut_off_reached (head_of cut_off arc)) →
    IsFalse (is_boarding cut_off arc) → label ≤ time_through cut_off cut_off_labels arc
cut_off-free label zero lt leaves reached free = absurd cc
cut_off-free label (suc arc) lt leaves reached free = absurd (omega arith)

cut_off-within : (label : ℕ) → 0 + 7000 * (label - 60000) ≤ 1800000000 → label ≤ 317142
cut_off-within label h = omega arith

cut_off-greatest : (label : ℕ) → Permits cut_off cut_off_reached cut_off_labels 0 label → label ≤ 317142
cut_off-greatest label p = cut_off-within label p.boarding

cut_off-reaching : (node : ℕ) → node < 3 → node ≢ 1 → IsTrue (is_reached cut_off_reached node) → IsGreatest cut_off cut_off_reached cut_off_labels node
cut_off-reaching zero lt ne here = record { permitted = record { free = cut_off-free 317142; boarding = lit≤ tt }; greatest = cut_off-greatest }
cut_off-reaching (suc zero) lt ne here = absurd (ne refl)
cut_off-reaching (suc (suc zero)) lt ne here = absurd cc
cut_off-reaching (suc (suc (suc node))) lt ne here = absurd (omega arith)

cut_off-below : (other : ℕ) → other < 3 → IsTrue (is_reached cut_off_reached other) → slice_index cut_off_labels other ≤ 317142
cut_off-below zero lt here = lit≤ tt
cut_off-below (suc zero) lt here = lit≤ tt
cut_off-below (suc (suc zero)) lt here = lit≤ tt
cut_off-below (suc (suc (suc other))) lt here = absurd (omega arith)

cut_off-elsewhere : (node : ℕ) → node < 3 → IsFalse (is_reached cut_off_reached node) → IsHighest cut_off cut_off_reached cut_off_labels node
cut_off-elsewhere zero lt here = absurd cc
cut_off-elsewhere (suc zero) lt here = absurd cc
cut_off-elsewhere (suc (suc zero)) lt here = record { one = (0, lit< tt, refl, refl); highest = cut_off-below }
cut_off-elsewhere (suc (suc (suc node))) lt here = absurd (omega arith)

-- node 2 has the label of node 0, the greatest of those that reach, and not 0
pub cut_off-labels : SolvesLabels cut_off 1 cut_off_reached cut_off_labels
cut_off-labels = record { label_per_node = refl; zero_at_destination = refl; reaching = cut_off-reaching; elsewhere = cut_off-elsewhere }

-- ---- two equal lines from a stop, and walks to it
-- A wait of 1800000000 / 12000 ticks for either line and the ride of 600000 make 750000 at node 1. A walk of 5 ticks leads to it
-- from node 0, and one of 1 tick from node 2 to node 0.

abbrev pub walk_to_lines : NetworkData
walk_to_lines = record {
  nodes = 4;
  arcs = (free 0 1 5) ∷ (boarded 1 3 600000 6000) ∷ (boarded 1 3 600000 6000) ∷ (free 2 0 1) ∷ [];
  k = 1800000000;
}

abbrev pub walk_to_lines_reached : List Bool
walk_to_lines_reached = true ∷ true ∷ true ∷ true ∷ []

abbrev pub walk_to_lines_labels : List ℕ
walk_to_lines_labels = 750005 ∷ 750000 ∷ 750006 ∷ 0 ∷ []

walk_to_lines-within : (label : ℕ) → 0 + 6000 * (label - 600000) + 6000 * (label - 600000) ≤ 1800000000 → label ≤ 750000
walk_to_lines-within label h = omega arith

walk_to_lines-greatest : (node label : ℕ) → node < 4 → node ≢ 3 → Permits walk_to_lines walk_to_lines_reached walk_to_lines_labels node label →
    label ≤ slice_index walk_to_lines_labels node
walk_to_lines-greatest zero label lt ne p = p.free 0 (lit< tt) refl refl refl
walk_to_lines-greatest (suc zero) label lt ne p = walk_to_lines-within label p.boarding
walk_to_lines-greatest (suc (suc zero)) label lt ne p = p.free 3 (lit< tt) refl refl refl
walk_to_lines-greatest (suc (suc (suc zero))) label lt ne p = absurd (ne refl)
walk_to_lines-greatest (suc (suc (suc (suc node)))) label lt ne p = absurd (omega arith)

walk_to_lines-below : (arc : ℕ) → arc < 4 → IsFalse (is_boarding walk_to_lines arc) →
    slice_index walk_to_lines_labels (tail_of walk_to_lines arc) ≤ time_through walk_to_lines walk_to_lines_labels arc
walk_to_lines-below zero lt here = lit≤ tt
walk_to_lines-below (suc zero) lt here = absurd cc
walk_to_lines-below (suc (suc zero)) lt here = absurd cc
walk_to_lines-below (suc (suc (suc zero))) lt here = lit≤ tt
walk_to_lines-below (suc (suc (suc (suc arc)))) lt here = absurd (omega arith)

walk_to_lines-free : (node arc : ℕ) → arc < 4 → tail_of walk_to_lines arc ≡ node → IsTrue (is_reached walk_to_lines_reached (head_of walk_to_lines arc)) →
    IsFalse (is_boarding walk_to_lines arc) → slice_index walk_to_lines_labels node ≤ time_through walk_to_lines walk_to_lines_labels arc
walk_to_lines-free node arc lt leaves reached here = rw (sym leaves) (walk_to_lines-below arc lt here)

walk_to_lines-permitted : (node : ℕ) → node < 4 → node ≢ 3 → Permits walk_to_lines walk_to_lines_reached walk_to_lines_labels node (slice_index walk_to_lines_labels node)
walk_to_lines-permitted zero lt ne = record { free = walk_to_lines-free 0; boarding = lit≤ tt }
walk_to_lines-permitted (suc zero) lt ne = record { free = walk_to_lines-free 1; boarding = lit≤ tt }
walk_to_lines-permitted (suc (suc zero)) lt ne = record { free = walk_to_lines-free 2; boarding = lit≤ tt }
walk_to_lines-permitted (suc (suc (suc zero))) lt ne = absurd (ne refl)
walk_to_lines-permitted (suc (suc (suc (suc node)))) lt ne = absurd (omega arith)

walk_to_lines-none_elsewhere : (node : ℕ) → node < 4 → IsFalse (is_reached walk_to_lines_reached node) → ⊥
walk_to_lines-none_elsewhere zero lt here = absurd cc
walk_to_lines-none_elsewhere (suc zero) lt here = absurd cc
walk_to_lines-none_elsewhere (suc (suc zero)) lt here = absurd cc
walk_to_lines-none_elsewhere (suc (suc (suc zero))) lt here = absurd cc
walk_to_lines-none_elsewhere (suc (suc (suc (suc node)))) lt here = omega arith

pub walk_to_lines-labels : SolvesLabels walk_to_lines 3 walk_to_lines_reached walk_to_lines_labels
walk_to_lines-labels = record {
  label_per_node = refl;
  zero_at_destination = refl;
  reaching = λ node lt ne here. record { permitted = walk_to_lines-permitted node lt ne; greatest = λ label. walk_to_lines-greatest node label lt ne };
  elsewhere = λ node lt here. absurd (walk_to_lines-none_elsewhere node lt here);
}

-- node 3 first, then nodes 1, 0 and 2
abbrev pub walk_to_lines_order : List ℕ
walk_to_lines_order = 3 ∷ 1 ∷ 0 ∷ 2 ∷ []

walk_to_lines-placed : (place : ℕ) → place < 4 → IsTrue (is_reached walk_to_lines_reached (slice_index walk_to_lines_order place))
walk_to_lines-placed zero lt = refl
walk_to_lines-placed (suc zero) lt = refl
walk_to_lines-placed (suc (suc zero)) lt = refl
walk_to_lines-placed (suc (suc (suc zero))) lt = refl
walk_to_lines-placed (suc (suc (suc (suc place)))) lt = absurd (omega arith)

walk_to_lines-all : (node : ℕ) → IsTrue (is_reached walk_to_lines_reached node) → (place : ℕ) × (place < 4) × (slice_index walk_to_lines_order place ≡ node)
walk_to_lines-all zero here = (2, lit< tt, refl)
walk_to_lines-all (suc zero) here = (1, lit< tt, refl)
walk_to_lines-all (suc (suc zero)) here = (3, lit< tt, refl)
walk_to_lines-all (suc (suc (suc zero))) here = (0, lit< tt, refl)
walk_to_lines-all (suc (suc (suc (suc node)))) here = absurd cc

walk_to_lines-sorted : (place later : ℕ) → place < later → later < 4 →
    StandsBefore walk_to_lines_labels (slice_index walk_to_lines_order place) (slice_index walk_to_lines_order later)
walk_to_lines-sorted zero (suc zero) before lt = inl (lit< tt)
walk_to_lines-sorted zero (suc (suc zero)) before lt = inl (lit< tt)
walk_to_lines-sorted zero (suc (suc (suc zero))) before lt = inl (lit< tt)
walk_to_lines-sorted (suc zero) (suc (suc zero)) before lt = inl (lit< tt)
walk_to_lines-sorted (suc zero) (suc (suc (suc zero))) before lt = inl (lit< tt)
walk_to_lines-sorted (suc (suc zero)) (suc (suc (suc zero))) before lt = inl (lit< tt)
walk_to_lines-sorted place later before lt = absurd (omega arith)

pub walk_to_lines-order : IsOrder walk_to_lines_reached walk_to_lines_labels walk_to_lines_order
walk_to_lines-order = record { reaching = walk_to_lines-placed; all = walk_to_lines-all; sorted = walk_to_lines-sorted }

-- of two nodes with one label that of the lower number stands before the other, and not the other way
lower_first : StandsBefore (7 ∷ 7 ∷ []) 0 1
lower_first = inr (refl, lit< tt)

not_higher_first : StandsBefore (7 ∷ 7 ∷ []) 1 0 → ⊥
not_higher_first (inl less) = omega arith
not_higher_first (inr same) = let below : 1 < 0 = same.1 in omega arith
