-- A certificate as far as it is read, and its text so far.
use Rattle.std.specs.Prelude.{◌≡◌, ℕ, ◌<◌, List, [], ◌++◌, length, codes}
use Rattle.std.specs.List.{flat_map}
use Rattle.definitions.specs.declared.arc.NetArc.{NetArc}
use Rattle.definitions.specs.Decimal.{number_line}
use Rattle.definitions.specs.Network.{NetworkData}
use Rattle.certificate.specs.declared.stage.Stage.{Stage}
use Rattle.certificate.specs.declared.stage.Stage.TheVariants as stage
use Rattle.certificate.specs.Spelling.{Certificate, network_of, title, last_line, arc_line}

-- what the lines so far say; a number whose line is not read yet says nothing
pub record DraftData : Type 0 where
  pub stage : Stage
  pub nodes : ℕ
  pub arc_count : ℕ
  pub k : ℕ
  pub destination : ℕ
  pub units : ℕ
  pub arcs : List NetArc
  pub demand : List ℕ
  pub labels : List ℕ
  pub volumes : List ℕ
  pub waits : List ℕ

-- the certificate of a draft
abbrev pub certificate_of : DraftData → Certificate
certificate_of d =
    record {
      nodes = d.nodes;
      k = d.k;
      destination = d.destination;
      arcs = d.arcs;
      demand = d.demand;
      labels = d.labels;
      volumes = d.volumes;
      waits = d.waits;
    }

-- the network of a draft
abbrev pub network_so_far : DraftData → NetworkData
network_so_far d = network_of (certificate_of d)

-- ---- the text so far

-- the lines up to the number of nodes
abbrev pub up_to_nodes : DraftData → List ℕ
up_to_nodes d = title ++ number_line (codes "nodes") d.nodes

-- the lines up to the number of arcs
abbrev pub up_to_arcs : DraftData → List ℕ
up_to_arcs d = up_to_nodes d ++ number_line (codes "arcs") d.arc_count

-- the lines up to `k`
abbrev pub up_to_k : DraftData → List ℕ
up_to_k d = up_to_arcs d ++ number_line (codes "k") d.k

-- the lines up to the last row so far
abbrev pub up_to_rows : DraftData → List ℕ
up_to_rows d =
    up_to_k d
    ++ number_line (codes "destination") d.destination
    ++ flat_map arc_line d.arcs
    ++ flat_map (number_line (codes "g")) d.demand
    ++ flat_map (number_line (codes "u")) d.labels
    ++ flat_map (number_line (codes "v")) d.volumes
    ++ flat_map (number_line (codes "q")) d.waits

-- the lines before a stage
abbrev pub text_before : Stage → DraftData → List ℕ
text_before stage.Title d = []
text_before stage.Nodes d = title
text_before stage.Arcs d = up_to_nodes d
text_before stage.K d = up_to_arcs d
text_before stage.Destination d = up_to_k d
text_before stage.Rows d = up_to_rows d
text_before stage.Done d = up_to_rows d ++ last_line

-- the lines so far
abbrev pub text_so_far : DraftData → List ℕ
text_so_far d = text_before d.stage d

-- a line went from the front of the bytes into the draft
pub record Took (old : DraftData) (bytes : List ℕ) (new : DraftData) (rest : List ℕ) : Type 0 where
  pub text : text_so_far old ++ bytes ≡ text_so_far new ++ rest
  pub shorter : length rest < length bytes
