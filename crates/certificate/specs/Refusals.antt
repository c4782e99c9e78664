-- Why a text is refused.
use Rattle.std.specs.Prelude.{◌≡◌, ℕ, ◌++◌, ◌⊎◌, List, Result, MatchResult}
use Rattle.certificate.specs.declared.checking.Verdict.{Verdict}
use Rattle.certificate.specs.declared.refused.Refused.{Refused}
use Rattle.certificate.specs.declared.refused.Refused.TheVariants as refused
use Rattle.certificate.specs.Spelling.{Certificate, spelling}
use Rattle.certificate.specs.Valid.{HasGoodLines, HasVerdict}
use Rattle.certificate.specs.Draft.{DraftData, text_so_far}
use Rattle.certificate.specs.LineFaults.{IsLineFault}
use Rattle.certificate.specs.Kept.{IsKept}
use Rattle.certificate.specs.Judged.{IsFirstFailure}

-- after good lines comes one that is faulty, or a byte after the last
pub record HasFaultyLine (bytes : List ℕ) (answer : Refused) : Type 0 where
  pub draft : DraftData
  pub kept : IsKept draft
  pub rest : List ℕ
  pub text : text_so_far draft ++ rest ≡ bytes
  pub fault : IsLineFault draft rest answer

-- all lines are good, and then something fails
pub record HasFailure (bytes : List ℕ) (answer : Refused) : Type 0 where
  pub certificate : Certificate
  pub text : bytes ≡ spelling certificate
  pub lines : HasGoodLines certificate
  pub first : IsFirstFailure certificate answer

-- the text has a refusal: that of a faulty line, or of what fails after all lines
abbrev pub HasRefusal : List ℕ → Refused → Type 0
HasRefusal bytes answer = HasFaultyLine bytes answer ⊎ HasFailure bytes answer

-- why a text is refused; want of memory may come in place of any
abbrev pub IsRefusedWith : List ℕ → Refused → Type 0
IsRefusedWith bytes answer = (answer ≡ refused.NoMemory) ⊎ HasRefusal bytes answer

-- a text that has a refusal is answered so, or with want of memory
abbrev pub IsRefusedOnly : List ℕ → Result Verdict Refused → Type 0
IsRefusedOnly bytes result =
    (answer : Refused) → HasRefusal bytes answer →
    MatchResult result (λ verdict. ⊥) (λ said. (said ≡ answer) ⊎ (said ≡ refused.NoMemory))

-- ---- one text, one answer

-- the text has a verdict or a refusal
abbrev pub IsAnswered : List ℕ → Type 0
IsAnswered bytes = ((verdict : Verdict) × HasVerdict bytes verdict) ⊎ ((answer : Refused) × HasRefusal bytes answer)

-- a text has one refusal at most
abbrev pub OneRefusal : Type 0
OneRefusal = (bytes : List ℕ) (a b : Refused) → HasRefusal bytes a → HasRefusal bytes b → a ≡ b

-- a text has one verdict at most
abbrev pub OneVerdict : Type 0
OneVerdict = (bytes : List ℕ) (a b : Verdict) → HasVerdict bytes a → HasVerdict bytes b → a ≡ b

-- no text has both
abbrev pub NeverBoth : Type 0
NeverBoth = (bytes : List ℕ) (verdict : Verdict) (answer : Refused) → HasVerdict bytes verdict → HasRefusal bytes answer → ⊥
