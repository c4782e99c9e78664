-- Texts of the form of a certificate, whatever their numbers, and where bytes leave it. Here: docs/FORMATS.md.
use Rattle.std.specs.Prelude.{◌≡◌, ℕ, List, [], ◌∷◌, ◌++◌, ◌⊎◌, length, All, slice_index, IfSome}
use Rattle.definitions.specs.declared.arc.NetArc.{NetArc}
use Rattle.certificate.specs.declared.refused.Refused.{Refused}
use Rattle.certificate.specs.declared.refused.Refused.TheVariants as refused
use Rattle.certificate.specs.declared.stage.Stage.TheVariants as stage
use Rattle.certificate.specs.Spelling.{Certificate, spelling}
use Rattle.certificate.specs.Draft.{DraftData, text_so_far}
use Rattle.certificate.specs.Kept.{IsKept}
use Rattle.certificate.specs.Grammar.{IsShort, kind_at}
use Rattle.certificate.specs.LineFaults.{IsWithinLine, BeginsNoLine, HasWrongByte, HasByteAfterEnd}
use Rattle.certificate.specs.Refusals.{HasRefusal}

-- ---- texts of the form

-- each number of the arc has at most 28 digits
pub record IsShortArc (arc : NetArc) : Type 0 where
  pub tail : IsShort arc.tail
  pub head : IsShort arc.head
  pub cost : IsShort arc.cost
  pub weight : IfSome arc.weight IsShort

-- a certificate whose spelling is a text of the form, whether or not its numbers are within any limit or rule: each has at most 28 digits, each node and arc has its lines, and the destination has `g 0`
pub record IsOfForm (c : Certificate) : Type 0 where
  pub nodes : IsShort c.nodes
  pub arc_count : IsShort (length c.arcs)
  pub k : IsShort c.k
  pub destination : IsShort c.destination
  pub arcs : All IsShortArc c.arcs
  pub demand : All IsShort c.demand
  pub labels : All IsShort c.labels
  pub volumes : All IsShort c.volumes
  pub waits : All IsShort c.waits
  pub demand_per_node : length c.demand ≡ c.nodes
  pub label_per_node : length c.labels ≡ c.nodes
  pub volume_per_arc : length c.volumes ≡ length c.arcs
  pub wait_per_node : length c.waits ≡ c.nodes
  pub no_demand_at_destination : slice_index c.demand c.destination ≡ 0

-- a text of the form begins with the bytes
pub record BeginsText (bytes : List ℕ) : Type 0 where
  pub certificate : Certificate
  pub form : IsOfForm certificate
  pub rest : List ℕ
  pub text : bytes ++ rest ≡ spelling certificate

-- no text of the form begins with the bytes
abbrev pub BeginsNoText : List ℕ → Type 0
BeginsNoText bytes = BeginsText bytes → ⊥

-- ---- the place

-- the bytes end after those so far, or go on with a byte with which they begin no text of the form
abbrev pub LeavesAfter : List ℕ → List ℕ → Type 0
LeavesAfter so_far [] = Unit {0}
LeavesAfter so_far (byte ∷ _) = BeginsNoText (so_far ++ byte ∷ [])

-- the bytes before the place begin a text of the form, and with the byte at the place they begin none; or the place is where the bytes end
pub record LeavesFormAt (bytes : List ℕ) (place : ℕ) : Type 0 where
  pub before : List ℕ
  pub after : List ℕ
  pub text : before ++ after ≡ bytes
  pub is : place ≡ length before
  pub begins : BeginsText before
  pub leaves : LeavesAfter before after

-- the answer is the place where the bytes leave the form
pub record SaysWhereItLeaves (bytes : List ℕ) (answer : Refused) : Type 0 where
  pub place : ℕ
  pub leaves : LeavesFormAt bytes place
  pub says : answer ≡ refused.Grammar place

-- ---- laws

-- after good lines, what is within a line that may come next begins a text of the form
abbrev pub WithinLineBegins : Type 0
WithinLineBegins = (draft : DraftData) (before : List ℕ) → IsKept draft → IsWithinLine (kind_at draft.stage draft) before → BeginsText (text_so_far draft ++ before)

-- and with a byte with which it begins no line that may come next it begins no text of the form
abbrev pub WrongByteLeaves : Type 0
WrongByteLeaves =
    (draft : DraftData) (before : List ℕ) (byte : ℕ) → IsKept draft → IsWithinLine (kind_at draft.stage draft) before → BeginsNoLine (kind_at draft.stage draft) (before ++ byte ∷ []) →
    BeginsNoText (text_so_far draft ++ (before ++ byte ∷ []))

-- the lines up to the last begin a text of the form, and with any byte more they begin none
abbrev pub NothingComesAfterEnd : Type 0
NothingComesAfterEnd =
    (draft : DraftData) (byte : ℕ) → IsKept draft → draft.stage ≡ stage.Done →
    BeginsText (text_so_far draft) × BeginsNoText (text_so_far draft ++ byte ∷ [])

-- after good lines, the place of a wrong byte is that where the text leaves the form
abbrev pub PlaceIsOfTheForm : Type 0
PlaceIsOfTheForm =
    (draft : DraftData) (bytes : List ℕ) (answer : Refused) → IsKept draft → HasWrongByte (kind_at draft.stage draft) (length (text_so_far draft)) bytes answer ⊎ HasByteAfterEnd (kind_at draft.stage draft) (length (text_so_far draft)) bytes answer →
    SaysWhereItLeaves (text_so_far draft ++ bytes) answer

-- a text that is refused for its shape is refused with the place where it leaves the form
abbrev pub TextLeavesFormThere : Type 0
TextLeavesFormThere = (bytes : List ℕ) (place : ℕ) → HasRefusal bytes (refused.Grammar place) → LeavesFormAt bytes place

-- there is one such place at most
abbrev pub OnePlace : Type 0
OnePlace = (bytes : List ℕ) (a b : ℕ) → LeavesFormAt bytes a → LeavesFormAt bytes b → a ≡ b
