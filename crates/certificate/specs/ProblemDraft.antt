-- The problem of a draft without labels, volumes and waits, as the lines of a network text give it.
use Rattle.std.specs.Prelude.{◌≡◌, ℕ, ◌<◌, List, [], ◌++◌, ◌⊎◌, length, Ok, Err}
use Rattle.certificate.specs.declared.fault.Fault.{Fault}
use Rattle.certificate.specs.declared.fault.Fault.TheVariants as fault
use Rattle.certificate.specs.declared.stage.Stage.{Stage}
use Rattle.certificate.specs.declared.stage.Stage.TheVariants as stage
use Rattle.certificate.specs.Bytes.{literal_at}
use Rattle.certificate.specs.Spelling.{last_line}
use Rattle.certificate.specs.NetworkText.{ProblemData}
use Rattle.certificate.specs.Draft.{DraftData, network_so_far, text_so_far}
use Rattle.certificate.specs.NextLine.{line_at}
use Rattle.certificate.specs.Kept.{IsKept}

-- the problem of a draft
abbrev pub problem_so_far : DraftData → ProblemData
problem_so_far d = record { network = network_so_far d; destination = d.destination; demand = d.demand }

-- the title is read, and not the last line
abbrev pub IsWithinText : Stage → Type 0
IsWithinText stage.Title = ⊥
IsWithinText stage.Nodes = Unit {0}
IsWithinText stage.Arcs = Unit {0}
IsWithinText stage.K = Unit {0}
IsWithinText stage.Destination = Unit {0}
IsWithinText stage.Rows = Unit {0}
IsWithinText stage.Done = ⊥

-- no label, volume or wait is read
pub record IsUnclaimed (d : DraftData) : Type 0 where
  pub stage : IsWithinText d.stage
  pub labels : d.labels ≡ []
  pub volumes : d.volumes ≡ []
  pub waits : d.waits ≡ []

-- the demand of some node is not read
abbrev pub HasDemandLeft : DraftData → Type 0
HasDemandLeft d = d.stage ≡ stage.Rows → length d.demand < d.nodes

-- the demand of each node is read
pub record IsProblemWhole (d : DraftData) : Type 0 where
  pub kept : IsKept d
  pub unclaimed : IsUnclaimed d
  pub rows : d.stage ≡ stage.Rows
  pub demand : length d.demand ≡ d.nodes

-- the bytes are good lines, under the title of certificates, and then one before the last demand at which the reading stops
pub record StopsInProblem (bytes : List ℕ) (reason : Fault) : Type 0 where
  pub draft : DraftData
  pub kept : IsKept draft
  pub unclaimed : IsUnclaimed draft
  pub left : HasDemandLeft draft
  pub rest : List ℕ
  pub text : text_so_far draft ++ rest ≡ bytes
  pub stops : line_at draft rest ≡ Err reason

-- bytes stand after the last line
pub record HasMore (bytes : List ℕ) (reason : Fault) : Type 0 where
  pub more : List ℕ
  pub text : literal_at last_line bytes ≡ Ok more
  pub some : 0 < length more
  pub says : reason ≡ fault.Stop (length more)

-- the last line is not there, or bytes stand after it
abbrev pub StopsAtEnd : List ℕ → Fault → Type 0
StopsAtEnd bytes reason = (literal_at last_line bytes ≡ Err reason) ⊎ HasMore bytes reason
