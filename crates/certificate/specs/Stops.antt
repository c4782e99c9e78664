-- Where the reading of a text's lines stops.
use Rattle.std.specs.Prelude.{◌≡◌, ℕ, ◌-◌, ◌<◌, ◌++◌, List, length, Err}
use Rattle.certificate.specs.declared.fault.Fault.{Fault}
use Rattle.certificate.specs.declared.fault.Fault.TheVariants as fault
use Rattle.certificate.specs.declared.refused.Refused.{Refused}
use Rattle.certificate.specs.declared.refused.Refused.TheVariants as refused
use Rattle.certificate.specs.declared.stage.Stage.TheVariants as stage
use Rattle.certificate.specs.Draft.{DraftData, text_so_far}
use Rattle.certificate.specs.NextLine.{line_at}
use Rattle.certificate.specs.Kept.{IsKept}

-- the refusal of a line's fault in a text of a length: a wrong byte by its place from the front
abbrev pub refusal_of : ℕ → Fault → Refused
refusal_of length (fault.Stop left) = refused.Grammar (length - left)
refusal_of length (fault.Range limit count) = refused.Range limit count
refusal_of length (fault.Arc inner) = refused.Arc inner
refusal_of length fault.NoMemory = refused.NoMemory

-- after good lines the reading of the next stops, or bytes stand after the last
pub record StopsWith (bytes : List ℕ) (answer : Refused) : Type 0 where
  pub draft : DraftData
  pub kept : IsKept draft
  pub rest : List ℕ
  pub text : text_so_far draft ++ rest ≡ bytes
  pub more : draft.stage ≡ stage.Done → 0 < length rest
  pub fault : Fault
  pub stops : line_at draft rest ≡ Err fault
  pub says : answer ≡ refusal_of (length bytes) fault
