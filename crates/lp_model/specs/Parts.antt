-- A network of its parts, and the number of a node's first arc.
use Rattle.std.specs.Prelude.{ℕ, nat_lt, List, count_by}
use Rattle.definitions.specs.declared.arc.NetArc.{NetArc}
use Rattle.definitions.specs.Network.{NetworkData, tail_of, arc_numbers}

-- the network of so many nodes, these arcs and this wait constant
abbrev pub network_with : ℕ → List NetArc → ℕ → NetworkData
network_with nodes arcs k = record { nodes = nodes; arcs = arcs; k = k }

-- how many arcs have a tail below a node: the number of the node's first arc, where it has one
abbrev pub first_arc : NetworkData → ℕ → ℕ
first_arc net node = count_by (λ arc. nat_lt (tail_of net arc) node) (arc_numbers net)
