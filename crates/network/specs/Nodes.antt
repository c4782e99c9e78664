-- The nodes of the network of a city, and their numbers. Here: docs/FORMATS.md.
use Rattle.std.specs.Prelude.{◌+◌, ◌-◌, ◌*◌, ◌++◌, ℕ, List, [], ◌∷◌, map, flat_map, length, slice_index_or, sum_by}
use Rattle.std.specs.List.{range_with_len}
use Rattle.network.specs.declared.kinds.KeptLine.{KeptLine}
use Rattle.network.specs.declared.kinds.NodeKind.{NodeKind}
use Rattle.network.specs.declared.kinds.NodeKind.TheVariants as node
use Rattle.network.specs.Sources.{Sources, kept_count, kept_line, kept_numbers, kept_weight, stop_count, zone_count}

-- the places of a kept line that it leaves: all but the last
abbrev pub places_left : Sources → ℕ → List ℕ
places_left sources kept = range_with_len 0 (length (kept_line sources kept).places - 1)

-- the nodes of a stop
abbrev pub stop_nodes : ℕ → List NodeKind
stop_nodes stop = node.First stop ∷ node.Later stop ∷ []

-- the nodes of the segment from a place of a kept line to the next
abbrev pub segment_nodes : ℕ → ℕ → List NodeKind
segment_nodes kept place = node.Leave kept place ∷ node.Reach kept (place + 1) ∷ []

-- the nodes of a kept line, from its first place to its last
abbrev pub line_nodes : Sources → ℕ → List NodeKind
line_nodes sources kept = flat_map (segment_nodes kept) (places_left sources kept)

-- all nodes: the origins of the zones, their goals, the nodes of the stops, and those of the kept lines
unfoldable pub nodes_of : Sources → List NodeKind
nodes_of sources =
    map node.Origin (range_with_len 0 (zone_count sources))
    ++ map node.Goal (range_with_len 0 (zone_count sources))
    ++ flat_map stop_nodes (range_with_len 0 (stop_count sources))
    ++ flat_map (line_nodes sources) (range_with_len 0 (kept_count sources))

-- how many nodes the kept lines before one have
abbrev pub nodes_before : Sources → ℕ → ℕ
nodes_before sources kept = sum_by (λ before. length (line_nodes sources before)) (range_with_len 0 kept)

-- the first node of a kept line
abbrev pub first_node : Sources → ℕ → ℕ
first_node sources kept = 2 * zone_count sources + 2 * stop_count sources + nodes_before sources kept

-- the number of a node by what it stands for
abbrev pub number_of : Sources → NodeKind → ℕ
number_of sources (node.Origin zone) = zone
number_of sources (node.Goal zone) = zone_count sources + zone
number_of sources (node.First stop) = 2 * zone_count sources + 2 * stop
number_of sources (node.Later stop) = 2 * zone_count sources + 2 * stop + 1
number_of sources (node.Leave kept place) = first_node sources kept + 2 * place
number_of sources (node.Reach kept place) = first_node sources kept + 2 * place - 1

-- the kept line at a place among them
abbrev pub kept_at : Sources → ℕ → KeptLine
kept_at sources kept = record {
  line = slice_index_or (kept_numbers sources) kept 0;
  route = (kept_line sources kept).route;
  weight = kept_weight sources kept;
  first_node = first_node sources kept;
}

-- the kept lines, in their order
abbrev pub kept_lines : Sources → List KeptLine
kept_lines sources = map (kept_at sources) (range_with_len 0 (kept_count sources))
