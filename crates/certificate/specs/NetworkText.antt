-- The text of a problem. Here: docs/FORMATS.md.
use Rattle.std.specs.Prelude.{ℕ, List, ◌++◌, length, codes}
use Rattle.std.specs.List.{flat_map}
use Rattle.definitions.specs.Decimal.{line_end, number_line}
use Rattle.definitions.specs.Network.{NetworkData}
use Rattle.certificate.specs.Spelling.{arc_line, last_line}

-- a network, a destination and the demand of each node
pub record ProblemData : Type 0 where
  pub network : NetworkData
  pub destination : ℕ
  pub demand : List ℕ

-- the first line of a network text
abbrev pub network_title : List ℕ
network_title = codes "assignment-network 1" ++ line_end

-- the lines of a network text, each in its place: no other text is its text
abbrev pub network_spelling : ProblemData → List ℕ
network_spelling p =
    network_title
    ++ number_line (codes "nodes") p.network.nodes
    ++ number_line (codes "arcs") (length p.network.arcs)
    ++ number_line (codes "k") p.network.k
    ++ number_line (codes "destination") p.destination
    ++ flat_map arc_line p.network.arcs
    ++ flat_map (number_line (codes "g")) p.demand
    ++ last_line
