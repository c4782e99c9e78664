-- Tests of what the arcs and the nodes of a city stand for.
use Rattle.std.specs.Prelude.{◌==◌, ◌&&◌, ℕ, Bool}
use Rattle.network.specs.declared.kinds.ArcKind.{ArcKind}
use Rattle.network.specs.declared.kinds.ArcKind.TheVariants as arc
use Rattle.network.specs.declared.kinds.NodeKind.{NodeKind}
use Rattle.network.specs.declared.kinds.NodeKind.TheVariants as node

-- a number for each kind of arcs
abbrev pub kind_number : ArcKind → ℕ
kind_number arc.Access = 0
kind_number arc.Egress = 1
kind_number arc.Walk = 2
kind_number arc.BoardFirst = 3
kind_number arc.BoardLater = 4
kind_number arc.Ride = 5
kind_number arc.Dwell = 6
kind_number arc.Alight = 7

-- whether an arc is of a kind
abbrev pub is_kind : ArcKind → ArcKind → Bool
is_kind kind found = kind_number found == kind_number kind

-- a number for each sort of nodes
abbrev pub sort_number : NodeKind → ℕ
sort_number (node.Origin zone) = 0
sort_number (node.Goal zone) = 1
sort_number (node.First stop) = 2
sort_number (node.Later stop) = 3
sort_number (node.Leave line place) = 4
sort_number (node.Reach line place) = 5

-- the zone, the stop or the line of a node
abbrev pub owner_number : NodeKind → ℕ
owner_number (node.Origin zone) = zone
owner_number (node.Goal zone) = zone
owner_number (node.First stop) = stop
owner_number (node.Later stop) = stop
owner_number (node.Leave line place) = line
owner_number (node.Reach line place) = line

-- the place of a node on its line, 0 for a node of a zone or a stop
abbrev pub place_number : NodeKind → ℕ
place_number (node.Origin zone) = 0
place_number (node.Goal zone) = 0
place_number (node.First stop) = 0
place_number (node.Later stop) = 0
place_number (node.Leave line place) = place
place_number (node.Reach line place) = place

-- whether a node stands for a thing
abbrev pub is_node : NodeKind → NodeKind → Bool
is_node thing found = (sort_number found == sort_number thing) && ((owner_number found == owner_number thing) && (place_number found == place_number thing))
