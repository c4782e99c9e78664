-- Volumes of the arcs of a city, by what the arcs and their nodes stand for.
use Rattle.std.specs.Prelude.{◌&&◌, ◌*◌, ℕ, Bool, List, filter, slice_index, sum_by}
use Rattle.definitions.specs.Network.{arc_numbers, cost_of, head_of, tail_of}
use Rattle.network.specs.declared.kinds.ArcKind.{ArcKind}
use Rattle.network.specs.declared.kinds.NodeKind.{NodeKind}
use Rattle.network.specs.Cities.{CityData, arc_kind_of, node_kind_of}
use Rattle.line_report.specs.Sorts.{is_kind, is_node}

-- the volumes of all arcs that stand for such a thing
abbrev pub volume_where : CityData → (ArcKind → Bool) → List ℕ → ℕ
volume_where city test volumes = sum_by (slice_index volumes) (filter (λ number. test (arc_kind_of city number)) (arc_numbers city.net))

-- the arcs of a kind that leave a node which stands for this
abbrev pub arcs_leaving : CityData → ArcKind → NodeKind → List ℕ
arcs_leaving city kind from = filter (λ number. is_kind kind (arc_kind_of city number) && is_node from (node_kind_of city (tail_of city.net number))) (arc_numbers city.net)

-- the arcs of a kind that lead to a node which stands for this
abbrev pub arcs_entering : CityData → ArcKind → NodeKind → List ℕ
arcs_entering city kind to = filter (λ number. is_kind kind (arc_kind_of city number) && is_node to (node_kind_of city (head_of city.net number))) (arc_numbers city.net)

-- the units on arcs
abbrev pub units_on : List ℕ → List ℕ → ℕ
units_on volumes arcs = sum_by (slice_index volumes) arcs

-- the ticks that all units spend on arcs: the cost of each times its volume
abbrev pub ticks_on : CityData → List ℕ → List ℕ → ℕ
ticks_on city volumes arcs = sum_by (λ number. cost_of city.net number * slice_index volumes number) arcs
