-- The arcs of a city in three parts: those that leave the nodes of zones, of stops and of lines.
use Rattle.std.specs.Prelude.{◌+◌, ◌++◌, ℕ, List, flat_map}
use Rattle.std.specs.List.{range_with_len}
use Rattle.network.specs.declared.kinds.NodeKind.TheVariants as node
use Rattle.network.specs.Arcs.{CityArc, access_arcs, arcs_from}
use Rattle.network.specs.Nodes.{places_left}
use Rattle.network.specs.Sources.{Sources, kept_count, stop_count, zone_count}

-- the arcs from the nodes of a stop
abbrev pub stop_node_arcs : Sources → ℕ → List CityArc
stop_node_arcs sources stop = arcs_from sources (node.First stop) ++ arcs_from sources (node.Later stop)

-- the arcs from the nodes of the segment from a place of a kept line to the next
abbrev pub segment_arcs : Sources → ℕ → ℕ → List CityArc
segment_arcs sources line place = arcs_from sources (node.Leave line place) ++ arcs_from sources (node.Reach line (place + 1))

-- the arcs from the nodes of a kept line
abbrev pub line_arcs : Sources → ℕ → List CityArc
line_arcs sources line = flat_map (segment_arcs sources line) (places_left sources line)

-- the arcs from the nodes of all zones
unfoldable pub zone_part : Sources → List CityArc
zone_part sources = flat_map (access_arcs sources) (range_with_len 0 (zone_count sources))

-- the arcs from the nodes of all stops
unfoldable pub stop_part : Sources → List CityArc
stop_part sources = flat_map (stop_node_arcs sources) (range_with_len 0 (stop_count sources))

-- the arcs from the nodes of all kept lines
unfoldable pub line_part : Sources → List CityArc
line_part sources = flat_map (line_arcs sources) (range_with_len 0 (kept_count sources))
