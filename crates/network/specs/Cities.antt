-- The network of a city, as contracts see it. Here: docs/FORMATS.md.
use Rattle.std.specs.Prelude.{◌≡◌, ◌<◌, ◌≤◌, ◌+◌, ℕ, List, Some, length, map, slice_get, slice_index_or}
use Rattle.definitions.specs.Network.{NetworkData, head_of, is_boarding, tail_of}
use Rattle.network.specs.declared.kinds.ArcKind.{ArcKind}
use Rattle.network.specs.declared.kinds.ArcKind.TheVariants as arc
use Rattle.network.specs.declared.kinds.KeptLine.{KeptLine}
use Rattle.network.specs.declared.kinds.NodeKind.{NodeKind}
use Rattle.network.specs.declared.kinds.NodeKind.TheVariants as node
use Rattle.network.specs.Arcs.{arcs_of}
use Rattle.network.specs.Joins.{Joins}
use Rattle.network.specs.Kinds.{is_boarding_kind}
use Rattle.network.specs.Nodes.{kept_lines, nodes_of}
use Rattle.network.specs.Sources.{Sources, zone_count}

-- a network, how many zones it has, what its nodes and its arcs stand for by their numbers, and the kept lines
pub record CityData : Type 0 where
  pub net : NetworkData
  pub zones : ℕ
  pub nodes : List NodeKind
  pub arcs : List ArcKind
  pub kept : List KeptLine

-- the city with these parts
abbrev pub city_with : NetworkData → ℕ → List NodeKind → List ArcKind → List KeptLine → CityData
city_with net zones nodes arcs kept = record { net = net; zones = zones; nodes = nodes; arcs = arcs; kept = kept }

-- the network of these sources, with a wait constant
abbrev pub network_of : Sources → ℕ → NetworkData
network_of sources k = record { nodes = length (nodes_of sources); arcs = map (λ found. found.arc) (arcs_of sources); k = k }

-- the city of these sources, with a wait constant
abbrev pub city_of : Sources → ℕ → CityData
city_of sources k =
    city_with (network_of sources k) (zone_count sources) (nodes_of sources) (map (λ found. found.kind) (arcs_of sources)) (kept_lines sources)

-- what the arc of a number stands for
abbrev pub arc_kind_of : CityData → ℕ → ArcKind
arc_kind_of city number = slice_index_or city.arcs number arc.Walk

-- what the node of a number stands for
abbrev pub node_kind_of : CityData → ℕ → NodeKind
node_kind_of city number = slice_index_or city.nodes number (node.Origin 0)

-- each node and each arc stands for something, no two nodes for one thing, each zone has an origin and a goal among the nodes, just the boardings have a weight,
-- and each arc joins the nodes that its kind says
pub record IsCity (city : CityData) : Type 0 where
  pub node_each : length city.nodes ≡ city.net.nodes
  pub arc_each : length city.arcs ≡ length city.net.arcs
  pub two_each : city.zones + city.zones ≤ city.net.nodes
  pub origins : (zone : ℕ) → zone < city.zones → slice_get city.nodes zone ≡ Some (node.Origin zone)
  pub goals : (zone : ℕ) → zone < city.zones → slice_get city.nodes (city.zones + zone) ≡ Some (node.Goal zone)
  pub boardings : (number : ℕ) → number < length city.net.arcs → is_boarding city.net number ≡ is_boarding_kind (arc_kind_of city number)
  pub distinct : (one other : ℕ) (kind : NodeKind) → slice_get city.nodes one ≡ Some kind → slice_get city.nodes other ≡ Some kind → one ≡ other
  pub joins : (number : ℕ) → number < length city.net.arcs →
      Joins (arc_kind_of city number) (node_kind_of city (tail_of city.net number)) (node_kind_of city (head_of city.net number))
