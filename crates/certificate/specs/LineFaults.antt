-- What is wrong with the line that comes next. Here: docs/FORMATS.md.
use Rattle.std.specs.Prelude.{◌≡◌, ℕ, ◌+◌, ◌<◌, ◌⊎◌, nat_lt, nat_le, Bool, List, [], ◌∷◌, ◌++◌, length, map, sum, slice_get, if◌then◌else◌, None, Some}
use Rattle.lp_model.specs.declared.fault.NetFault.{NetFault}
use Rattle.lp_model.specs.declared.fault.NetFault.TheVariants as net_fault
use Rattle.lp_model.specs.Faults.{arc_faults, tail_before}
use Rattle.certificate.specs.declared.refused.Limit.{Limit}
use Rattle.certificate.specs.declared.refused.Limit.TheVariants as limit
use Rattle.certificate.specs.declared.refused.Refused.{Refused}
use Rattle.certificate.specs.declared.refused.Refused.TheVariants as refused
use Rattle.certificate.specs.Limits.{greatest}
use Rattle.certificate.specs.Lines.{limit_of}
use Rattle.certificate.specs.Draft.{DraftData, network_so_far, text_so_far}
use Rattle.certificate.specs.Grammar.{Line, line_text, Kind, kind_at, IsOf}

-- ---- its numbers

-- the refusal, where the test holds
abbrev pub refused_if : Bool → Refused → List Refused
refused_if test answer = if test then answer ∷ [] else []

-- the refusal of a count past the limit
abbrev pub range_faults : Limit → ℕ → List Refused
range_faults limit count = refused_if (nat_lt (greatest limit) count) (refused.Range limit count)

-- the refusal of an arc's fault
abbrev pub arc_refusal : NetFault → Refused
arc_refusal (net_fault.Range limit count) = refused.Range (limit_of limit) count
arc_refusal net_fault.NoMemory = refused.NoMemory
arc_refusal fault = refused.Arc fault

-- all that is wrong with the numbers of the next line, in the order in which the first is answered
abbrev pub line_faults : DraftData → Line → List Refused
line_faults d Line.Title = []
line_faults d Line.NetworkTitle = []
line_faults d (Line.Nodes n) = range_faults limit.Nodes n
line_faults d (Line.Arcs n) = range_faults limit.Arcs n
line_faults d (Line.K n) = range_faults limit.K n
line_faults d (Line.Destination n) = refused_if (nat_le d.nodes n) (refused.Arc (net_fault.NodeOutside None n))
line_faults d (Line.Arc arc) = map arc_refusal (arc_faults d.nodes (tail_before (network_so_far d) (length d.arcs)) (length d.arcs) arc)
line_faults d (Line.Demand n) = range_faults limit.Units (sum d.demand + n)
line_faults d (Line.Label n) = range_faults limit.Label n
line_faults d (Line.Volume n) = range_faults limit.Volume n
line_faults d (Line.Wait n) = range_faults limit.Wait n
line_faults d Line.End = []

-- the bytes begin with a line of a kind, and this is the first that is wrong with its numbers
pub record HasWrongNumber (kind : Kind) (d : DraftData) (bytes : List ℕ) (answer : Refused) : Type 0 where
  pub line : Line
  pub next : IsOf kind line
  pub rest : List ℕ
  pub text : line_text line ++ rest ≡ bytes
  pub first : slice_get (line_faults d line) 0 ≡ Some answer

-- ---- its shape

-- the bytes are the beginning of a line of a kind, and not the whole of it
pub record IsWithinLine (kind : Kind) (bytes : List ℕ) : Type 0 where
  pub line : Line
  pub next : IsOf kind line
  pub rest : List ℕ
  pub text : bytes ++ rest ≡ line_text line
  pub more : 0 < length rest

-- the bytes are the beginning of no line of a kind
abbrev pub BeginsNoLine : Kind → List ℕ → Type 0
BeginsNoLine kind bytes = (line : Line) → IsOf kind line → (rest : List ℕ) → bytes ++ rest ≡ line_text line → ⊥

-- the text ends after the bytes so far, or goes on with a byte with which they begin no line of a kind
abbrev pub StopsAfter : Kind → List ℕ → List ℕ → Type 0
StopsAfter kind so_far [] = Unit {0}
StopsAfter kind so_far (byte ∷ _) = BeginsNoLine kind (so_far ++ byte ∷ [])

-- a byte is wrong where the bytes up to it and with it begin no text of the form with these earlier lines, which have `place` bytes;
-- where the text ends too early its length is answered
pub record HasWrongByte (kind : Kind) (place : ℕ) (bytes : List ℕ) (answer : Refused) : Type 0 where
  pub before : List ℕ
  pub after : List ℕ
  pub text : before ++ after ≡ bytes
  pub within : IsWithinLine kind before
  pub stops : StopsAfter kind before after
  pub says : answer ≡ refused.Grammar (place + length before)

-- where nothing may come, after the last line, each byte is wrong
pub record HasByteAfterEnd (kind : Kind) (place : ℕ) (bytes : List ℕ) (answer : Refused) : Type 0 where
  pub done : kind ≡ Kind.Nothing
  pub more : 0 < length bytes
  pub says : answer ≡ refused.Grammar place

-- ---- the first fault

-- what is wrong with a line at the front of the bytes, where one of a kind may come after lines of `place` bytes: its shape is judged first
abbrev pub IsFaultOf : Kind → DraftData → ℕ → List ℕ → Refused → Type 0
IsFaultOf kind d place bytes answer = HasWrongByte kind place bytes answer ⊎ (HasWrongNumber kind d bytes answer ⊎ HasByteAfterEnd kind place bytes answer)

-- what is wrong with the next line of a certificate, at the front of the bytes after the lines so far
abbrev pub IsLineFault : DraftData → List ℕ → Refused → Type 0
IsLineFault d = IsFaultOf (kind_at d.stage d) d (length (text_so_far d))
