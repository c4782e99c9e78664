-- The text of a certificate. Here: docs/FORMATS.md.
use Rattle.std.specs.Prelude.{ℕ, List, ◌++◌, length, Option, None, Some, codes}
use Rattle.std.specs.List.{flat_map}
use Rattle.definitions.specs.declared.arc.NetArc.{NetArc}
use Rattle.definitions.specs.Decimal.{numeral, line_end, number_line}
use Rattle.definitions.specs.Network.{NetworkData}

-- a problem (a network, a destination and the demand of each node), and the labels, volumes and waits that are claimed for it
pub record Certificate : Type 0 where
  pub nodes : ℕ
  pub k : ℕ
  pub destination : ℕ
  pub arcs : List NetArc
  pub demand : List ℕ
  pub labels : List ℕ
  pub volumes : List ℕ
  pub waits : List ℕ

-- the network of a certificate
abbrev pub network_of : Certificate → NetworkData
network_of c = record { nodes = c.nodes; arcs = c.arcs; k = c.k }

-- the certificate of a network
abbrev pub certificate_of : NetworkData → ℕ → List ℕ → List ℕ → List ℕ → List ℕ → Certificate
certificate_of net destination demand labels volumes waits = record {
  nodes = net.nodes;
  k = net.k;
  destination = destination;
  arcs = net.arcs;
  demand = demand;
  labels = labels;
  volumes = volumes;
  waits = waits;
}

-- the first line
abbrev pub title : List ℕ
title = codes "assignment-certificate 1" ++ line_end

-- the last line
abbrev pub last_line : List ℕ
last_line = codes "end" ++ line_end

-- the weight of an arc: a number, or `-` for a free arc
abbrev pub weight_text : Option ℕ → List ℕ
weight_text None = codes "-"
weight_text (Some weight) = numeral weight

-- `a TAIL HEAD COST WEIGHT`
abbrev pub arc_line : NetArc → List ℕ
arc_line arc =
    codes "a " ++ numeral arc.tail ++ codes " " ++ numeral arc.head ++ codes " " ++ numeral arc.cost ++ codes " " ++ weight_text arc.weight ++ line_end

-- the lines of a certificate, each in its place: no other text is its text
abbrev pub spelling : Certificate → List ℕ
spelling c =
    title
    ++ number_line (codes "nodes") c.nodes
    ++ number_line (codes "arcs") (length c.arcs)
    ++ number_line (codes "k") c.k
    ++ number_line (codes "destination") c.destination
    ++ flat_map arc_line c.arcs
    ++ flat_map (number_line (codes "g")) c.demand
    ++ flat_map (number_line (codes "u")) c.labels
    ++ flat_map (number_line (codes "v")) c.volumes
    ++ flat_map (number_line (codes "q")) c.waits
    ++ last_line
