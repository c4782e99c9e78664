-- Values worked out by hand, which the definitions of choices, volumes and waits give.
-- Two lines of 10 departures together: a wait of 1800000000 / 10000 = 180000 ticks, and the mean ride of 6 * 600000 + 4 * 900000
-- over 10, which is 720000, make the label of 900000. The slower line leads on in just this label, so ten units split 6 to 4.
use Rattle.std.proofs.Common.{◌≡◌, ℕ, zero, suc, ◌*◌, ◌<◌, ◌≤◌, Bool, List, [], ◌∷◌, refl, arith, lit≤, lit<, IsTrue}
use Rattle.std.specs.Prelude.{true, IsFalse, slice_index}
use Rattle.definitions.specs.declared.choice.Choice.TheVariants.{Stop, Walk, Wait}
use Rattle.definitions.specs.Network.{NetworkData, tail_of, is_boarding}
use Rattle.definitions.specs.Plan.{IsWaitedFor, cost_of_plan}
use Rattle.definitions.specs.Dual.{bound_of_labels}
use Rattle.definitions.specs.Choice.{choice_at}
use Rattle.definitions.specs.Volumes.{part_of, units_at, SolvesVolumes, IsLongEnough, AreLeastWaits, IsCarried}
use Rattle.definitions.specs.Reach.{is_reached}
use Rattle.definitions.proofs.KnownValues.{boarded, free}
use Rattle.definitions.proofs.KnownLabels.{walk_to_lines, walk_to_lines_reached, walk_to_lines_labels, cut_off, cut_off_reached}

abbrev pub two_lines : NetworkData
two_lines = record { nodes = 2; arcs = (boarded 0 1 600000 6000) ∷ (boarded 0 1 900000 4000) ∷ []; k = 1800000000 }

abbrev pub two_lines_reached : List Bool
two_lines_reached = true ∷ true ∷ []

abbrev pub two_lines_labels : List ℕ
two_lines_labels = 900000 ∷ 0 ∷ []

abbrev pub two_lines_demand : List ℕ
two_lines_demand = 10 ∷ 0 ∷ []

abbrev pub two_lines_volumes : List ℕ
two_lines_volumes = 6 ∷ 4 ∷ []

abbrev pub two_lines_waits : List ℕ
two_lines_waits = 1800000 ∷ 0 ∷ []

two_lines-choice : choice_at two_lines 1 two_lines_reached two_lines_labels 0 ≡ Wait 2 10000
two_lines-choice = refl

two_lines-stop : choice_at two_lines 1 two_lines_reached two_lines_labels 1 ≡ Stop
two_lines-stop = refl

two_lines-parts : (arc : ℕ) → arc < 2 → slice_index two_lines_volumes arc ≡
    part_of two_lines two_lines_reached two_lines_labels (choice_at two_lines 1 two_lines_reached two_lines_labels (tail_of two_lines arc))
    (units_at two_lines two_lines_demand two_lines_volumes (tail_of two_lines arc)) arc
two_lines-parts zero lt = refl
two_lines-parts (suc zero) lt = refl
two_lines-parts (suc (suc arc)) lt = absurd (omega arith)

pub two_lines-volumes : SolvesVolumes two_lines 1 two_lines_reached two_lines_labels two_lines_demand two_lines_volumes
two_lines-volumes = record { volume_per_arc = refl; parts = two_lines-parts }

two_lines-waited : (arc : ℕ) → arc < 2 → IsTrue (is_boarding two_lines arc) → IsWaitedFor two_lines two_lines_volumes arc 1800000
two_lines-waited zero lt here = lit≤ tt
two_lines-waited (suc zero) lt here = lit≤ tt
two_lines-waited (suc (suc arc)) lt here = absurd (omega arith)

two_lines-nothing_leaves : (arc : ℕ) → arc < 2 → tail_of two_lines arc ≡ 1 → ⊥
two_lines-nothing_leaves zero lt leaves = absurd cc
two_lines-nothing_leaves (suc zero) lt leaves = absurd cc
two_lines-nothing_leaves (suc (suc arc)) lt leaves = absurd (omega arith)

two_lines-enough : (node : ℕ) → node < 2 → IsLongEnough two_lines two_lines_volumes node (slice_index two_lines_waits node)
two_lines-enough zero lt = λ arc within leaves here. two_lines-waited arc within here
two_lines-enough (suc zero) lt = λ arc within leaves here. absurd (two_lines-nothing_leaves arc within leaves)
two_lines-enough (suc (suc node)) lt = absurd (omega arith)

two_lines-no_shorter : (wait : ℕ) → 1800000000 * 6 ≤ 6000 * wait → 1800000 ≤ wait
two_lines-no_shorter wait h = omega arith

two_lines-least : (node wait : ℕ) → node < 2 → IsLongEnough two_lines two_lines_volumes node wait → slice_index two_lines_waits node ≤ wait
two_lines-least zero wait lt long = two_lines-no_shorter wait (long 0 (omega arith) refl refl)
two_lines-least (suc zero) wait lt long = omega arith
two_lines-least (suc (suc node)) wait lt long = absurd (omega arith)

pub two_lines-waits : AreLeastWaits two_lines two_lines_volumes two_lines_waits
two_lines-waits = record { wait_per_node = refl; enough = two_lines-enough; least = two_lines-least }

-- 600000 * 6 + 900000 * 4 and the wait, and 10 times the label: no gap
two_lines-cost : cost_of_plan two_lines two_lines_volumes two_lines_waits ≡ 9000000
two_lines-cost = refl

two_lines-bound : bound_of_labels two_lines_demand two_lines_labels ≡ 9000000
two_lines-bound = refl

-- a walk that leads on in just the label is taken, and not the line beside it
abbrev pub walk_beside_line : NetworkData
walk_beside_line = record { nodes = 2; arcs = (boarded 0 1 600000 6000) ∷ (free 0 1 900000) ∷ (free 0 1 900000) ∷ []; k = 1800000000 }

walk_beside_line-choice : choice_at walk_beside_line 1 two_lines_reached two_lines_labels 0 ≡ Walk 1
walk_beside_line-choice = refl

-- ---- walks to a stop of two equal lines
-- One unit walks from node 0 and two from node 2 by node 0, so three come to node 1, and split 2 to 1: the remainders are equal.
-- The wait covers two units on one line, 1800000000 * 2 / 6000. Cost: 3 * 5 + 3 * 600000 + 2 * 1 + 600000.

abbrev pub walkers : List ℕ
walkers = 1 ∷ 0 ∷ 2 ∷ 0 ∷ []

abbrev pub walkers_volumes : List ℕ
walkers_volumes = 3 ∷ 2 ∷ 1 ∷ 2 ∷ []

abbrev pub walkers_waits : List ℕ
walkers_waits = 0 ∷ 600000 ∷ 0 ∷ 0 ∷ []

walkers-parts : (arc : ℕ) → arc < 4 → slice_index walkers_volumes arc ≡
    part_of walk_to_lines walk_to_lines_reached walk_to_lines_labels (choice_at walk_to_lines 3 walk_to_lines_reached walk_to_lines_labels (tail_of walk_to_lines arc))
    (units_at walk_to_lines walkers walkers_volumes (tail_of walk_to_lines arc)) arc
walkers-parts zero lt = refl
walkers-parts (suc zero) lt = refl
walkers-parts (suc (suc zero)) lt = refl
walkers-parts (suc (suc (suc zero))) lt = refl
walkers-parts (suc (suc (suc (suc arc)))) lt = absurd (omega arith)

pub walkers-volumes : SolvesVolumes walk_to_lines 3 walk_to_lines_reached walk_to_lines_labels walkers walkers_volumes
walkers-volumes = record { volume_per_arc = refl; parts = walkers-parts }

walkers-cost : cost_of_plan walk_to_lines walkers_volumes walkers_waits ≡ 2400017
walkers-cost = refl

walkers-bound : bound_of_labels walkers walk_to_lines_labels ≡ 2250017
walkers-bound = refl

-- ---- a wait that is rounded up, and demand where no way leads on

-- 1800000000 / 7000 is 257142 and 6000 / 7000
rounded-least : (wait : ℕ) → IsWaitedFor cut_off (1 ∷ []) 0 wait → 257143 ≤ wait
rounded-least wait h = omega arith

rounded-enough : IsWaitedFor cut_off (1 ∷ []) 0 257143
rounded-enough = lit≤ tt

cut_off-only_reaching : (node : ℕ) → node < 3 → IsFalse (is_reached cut_off_reached node) → slice_index (1 ∷ 0 ∷ 0 ∷ []) node ≡ 0
cut_off-only_reaching zero lt here = absurd cc
cut_off-only_reaching (suc zero) lt here = refl
cut_off-only_reaching (suc (suc zero)) lt here = refl
cut_off-only_reaching (suc (suc (suc node))) lt here = absurd (omega arith)

pub cut_off-carried : IsCarried cut_off 1 cut_off_reached (1 ∷ 0 ∷ 0 ∷ [])
cut_off-carried = record { demand_per_node = refl; none_at_destination = refl; only_reaching = cut_off-only_reaching }

one_is_not_none : (n : ℕ) → n ≡ 1 → n ≡ 0 → ⊥
one_is_not_none n one none = omega arith

-- a unit at the node that is cut off can't be carried
cut_off-not_carried : IsCarried cut_off 1 cut_off_reached (0 ∷ 0 ∷ 1 ∷ []) → ⊥
cut_off-not_carried carried = one_is_not_none (slice_index (0 ∷ 0 ∷ 1 ∷ []) 2) refl (carried.only_reaching 2 (lit< tt) refl)
