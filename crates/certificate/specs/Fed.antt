-- A text that is fed in pieces.
use Rattle.std.specs.Prelude.{◌≡◌, ◌≢◌, ℕ, List, ◌++◌, length, Option, Err, codes}
use Rattle.definitions.specs.Decimal.{number_line}
use Rattle.certificate.specs.declared.stage.Stage.{Stage}
use Rattle.certificate.specs.declared.stage.Stage.TheVariants as stage
use Rattle.certificate.specs.declared.fault.Fault.{Fault}
use Rattle.certificate.specs.declared.fault.Fault.TheVariants as fault
use Rattle.certificate.specs.declared.refused.Refused.{Refused}
use Rattle.certificate.specs.declared.refused.Refused.TheVariants as refused
use Rattle.certificate.specs.Spelling.{title}
use Rattle.certificate.specs.Grammar.{IsShort}
use Rattle.certificate.specs.Draft.{DraftData, text_so_far}
use Rattle.certificate.specs.NextLine.{line_at}
use Rattle.certificate.specs.Kept.{IsKept}
use Rattle.certificate.specs.Stops.{refusal_of}
use Rattle.certificate.specs.Refusals.{HasFaultyLine}
use Rattle.certificate.specs.Valid.{IsNoCertificate}

-- what a checker keeps: the lines so far, the part of the next one, and the refusal that it gave
pub record CheckerData : Type 0 where
  pub draft : DraftData
  pub part : List ℕ
  pub refused : Option Refused

-- the bytes that it was fed
abbrev pub bytes_so_far : CheckerData → List ℕ
bytes_so_far c = text_so_far c.draft ++ c.part

-- the line of the number of arcs is read
abbrev pub IsPastArcs : Stage → Type 0
IsPastArcs stage.Title = ⊥
IsPastArcs stage.Nodes = ⊥
IsPastArcs stage.Arcs = ⊥
IsPastArcs stage.K = Unit {0}
IsPastArcs stage.Destination = Unit {0}
IsPastArcs stage.Rows = Unit {0}
IsPastArcs stage.Done = Unit {0}

-- the bytes begin with the lines up to the number of arcs, whatever these numbers are
pub record HasArcsLine (bytes : List ℕ) : Type 0 where
  pub nodes : ℕ
  pub arcs : ℕ
  pub short_nodes : IsShort nodes
  pub short_arcs : IsShort arcs
  pub rest : List ℕ
  pub text : bytes ≡ title ++ number_line (codes "nodes") nodes ++ number_line (codes "arcs") arcs ++ rest

-- no line of the bytes is faulty: at most they end too early
abbrev pub HasNoFault : List ℕ → Type 0
HasNoFault bytes = (answer : Refused) → HasFaultyLine bytes answer → answer ≡ refused.Grammar (length bytes)

-- the bytes are good lines and then one with a fault, or bytes after the last; that they end is none
pub record HasFault (bytes : List ℕ) (reason : Fault) : Type 0 where
  pub draft : DraftData
  pub kept : IsKept draft
  pub rest : List ℕ
  pub text : text_so_far draft ++ rest ≡ bytes
  pub stops : line_at draft rest ≡ Err reason
  pub ended : reason ≢ fault.Stop 0

-- the refusal is that of such a fault
pub record IsRefusedForLine (bytes : List ℕ) (answer : Refused) : Type 0 where
  pub reason : Fault
  pub stands : HasFault bytes reason
  pub says : answer ≡ refusal_of (length bytes) reason

-- and it is, whatever bytes follow
abbrev pub StopsForGood : List ℕ → Refused → Type 0
StopsForGood bytes answer = (more : List ℕ) → IsRefusedForLine (bytes ++ more) answer

-- whatever bytes follow, the refusal is that of the first faulty line, and the text is that of no valid certificate
pub record IsRefusedForGood (bytes : List ℕ) (answer : Refused) : Type 0 where
  pub line : (more : List ℕ) → HasFaultyLine (bytes ++ more) answer
  pub invalid : (more : List ℕ) → IsNoCertificate (bytes ++ more)
