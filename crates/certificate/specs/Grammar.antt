-- The lines of certificates and network texts, and those that may come next in a certificate. Here: docs/FORMATS.md.
use Rattle.std.specs.Prelude.{◌≡◌, ℕ, ◌<◌, ◌==◌, nat_lt, List, length, codes, if◌then◌else◌, IfSome}
use Rattle.definitions.specs.declared.arc.NetArc.{NetArc}
use Rattle.definitions.specs.Decimal.{number_line}
use Rattle.certificate.specs.declared.stage.Stage.{Stage}
use Rattle.certificate.specs.declared.stage.Stage.TheVariants as stage
use Rattle.certificate.specs.Spelling.{title, last_line, arc_line}
use Rattle.certificate.specs.NetworkText.{network_title}
use Rattle.certificate.specs.Draft.{DraftData}

-- a line, by its kind and its numbers
pub data Line : Type 0 where
  Title : Line
  NetworkTitle : Line
  Nodes : ℕ → Line
  Arcs : ℕ → Line
  K : ℕ → Line
  Destination : ℕ → Line
  Arc : NetArc → Line
  Demand : ℕ → Line
  Label : ℕ → Line
  Volume : ℕ → Line
  Wait : ℕ → Line
  End : Line

-- the bytes of a line
abbrev pub line_text : Line → List ℕ
line_text Line.Title = title
line_text Line.NetworkTitle = network_title
line_text (Line.Nodes n) = number_line (codes "nodes") n
line_text (Line.Arcs n) = number_line (codes "arcs") n
line_text (Line.K n) = number_line (codes "k") n
line_text (Line.Destination n) = number_line (codes "destination") n
line_text (Line.Arc arc) = arc_line arc
line_text (Line.Demand n) = number_line (codes "g") n
line_text (Line.Label n) = number_line (codes "u") n
line_text (Line.Volume n) = number_line (codes "v") n
line_text (Line.Wait n) = number_line (codes "q") n
line_text Line.End = last_line

-- ---- what may come next

-- what may come next: a line of a kind, or nothing after the last
pub data Kind : Type 0 where
  Title : Kind
  NetworkTitle : Kind
  Nodes : Kind
  Arcs : Kind
  K : Kind
  Destination : Kind
  Arc : Kind
  Demand : Kind
  NoDemand : Kind
  Label : Kind
  Volume : Kind
  Wait : Kind
  End : Kind
  Nothing : Kind

-- after the destination: the arcs, then the demand of each node, `g 0` at the destination, then the labels, the volumes, the waits and the last line
abbrev pub row_kind : DraftData → Kind
row_kind d =
    if nat_lt (length d.arcs) d.arc_count then Kind.Arc
    else if nat_lt (length d.demand) d.nodes then (if length d.demand == d.destination then Kind.NoDemand else Kind.Demand)
    else if nat_lt (length d.labels) d.nodes then Kind.Label
    else if nat_lt (length d.volumes) d.arc_count then Kind.Volume
    else if nat_lt (length d.waits) d.nodes then Kind.Wait
    else Kind.End

-- the kind at a stage
abbrev pub kind_at : Stage → DraftData → Kind
kind_at stage.Title d = Kind.Title
kind_at stage.Nodes d = Kind.Nodes
kind_at stage.Arcs d = Kind.Arcs
kind_at stage.K d = Kind.K
kind_at stage.Destination d = Kind.Destination
kind_at stage.Rows d = row_kind d
kind_at stage.Done d = Kind.Nothing

-- a number has at most 28 digits
abbrev pub IsShort : ℕ → Type 0
IsShort n = n < 10000000000000000000000000000

-- a line of a number
pub record HasNumber (make : ℕ → Line) (line : Line) : Type 0 where
  pub number : ℕ
  pub short : IsShort number
  pub is : line ≡ make number

-- a line of an arc
pub record HasArc (line : Line) : Type 0 where
  pub arc : NetArc
  pub tail : IsShort arc.tail
  pub head : IsShort arc.head
  pub cost : IsShort arc.cost
  pub weight : IfSome arc.weight IsShort
  pub is : line ≡ Line.Arc arc

-- the lines of a kind, whether or not their numbers are within the limits
abbrev pub IsOf : Kind → Line → Type 0
IsOf Kind.Title line = line ≡ Line.Title
IsOf Kind.NetworkTitle line = line ≡ Line.NetworkTitle
IsOf Kind.Nodes line = HasNumber Line.Nodes line
IsOf Kind.Arcs line = HasNumber Line.Arcs line
IsOf Kind.K line = HasNumber Line.K line
IsOf Kind.Destination line = HasNumber Line.Destination line
IsOf Kind.Arc line = HasArc line
IsOf Kind.Demand line = HasNumber Line.Demand line
IsOf Kind.NoDemand line = line ≡ Line.Demand 0
IsOf Kind.Label line = HasNumber Line.Label line
IsOf Kind.Volume line = HasNumber Line.Volume line
IsOf Kind.Wait line = HasNumber Line.Wait line
IsOf Kind.End line = line ≡ Line.End
IsOf Kind.Nothing line = ⊥

-- the lines that may come next, after the lines so far
abbrev pub IsNext : DraftData → Line → Type 0
IsNext d = IsOf (kind_at d.stage d)
