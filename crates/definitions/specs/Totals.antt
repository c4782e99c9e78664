-- Totals of a network, and the slack: how far the cost of an assignment may lie above its bound.
-- Here: docs/FORMATS.md.
use Rattle.std.specs.Prelude.{ℕ, ◌+◌, ◌*◌, ◌==◌, nat_lt, min, List, [], ◌∷◌, length, count_by, filter, if◌then◌else◌, map}
use Rattle.std.specs.List.{fold}
use Rattle.std.specs.Int.{div_ceil}
use Rattle.definitions.specs.Network.{NetworkData, is_boarding, weight_of, node_numbers, arc_numbers, boarding_arcs}

-- how many nodes have a boarding arc
abbrev pub boarding_stops : NetworkData → ℕ
boarding_stops net = count_by (λ node. nat_lt 0 (length (boarding_arcs net node))) (node_numbers net)

-- the least of some numbers, 0 where there is none
abbrev pub least_of : List ℕ → ℕ
least_of [] = 0
least_of (n ∷ ns) = fold min n ns

-- the least weight of a boarding arc, 0 where there is none
abbrev pub least_weight : NetworkData → ℕ
least_weight net = least_of (map (weight_of net) (filter (is_boarding net) (arc_numbers net)))

-- the longest wait for one arc alone, in ticks rounded up: k over the least weight, 0 where there is no boarding arc
abbrev pub longest_wait : NetworkData → ℕ
longest_wait net = if least_weight net == 0 then 0 else div_ceil net.k (least_weight net)

-- the slack of an assignment: stops is the number of nodes with a boarding arc, units are assigned,
-- wait is the longest wait, and destinations is the number of destinations with demand
abbrev pub slack_of : ℕ → ℕ → ℕ → ℕ → ℕ
slack_of stops units wait destinations = stops * (units + 2 * wait * destinations)
