-- A text that was read in pieces, and why it was not.
use Rattle.std.specs.Prelude.{◌≡◌, ℕ, ◌+◌, ◌<◌, ◌≤◌, ◌⊎◌, List, ◌++◌, length, Option, None, Some, IfSome}
use Rattle.definitions.specs.declared.limits.TheConstants.{FILE_LIMIT}
use Rattle.definitions.specs.Causes.{Rose}
use Rattle.certificate.specs.declared.refused.Refused.{Refused as RefusedText}
use Rattle.certificate.specs.declared.refused.Refused.TheVariants as refused
use Rattle.certificate.specs.Fed.{CheckerData, bytes_so_far, IsRefusedForGood}
use Rattle.desk.specs.declared.status.Limit.TheVariants.{File}
use Rattle.desk.specs.declared.status.Cause.{Cause}
use Rattle.desk.specs.declared.status.Cause.TheVariants.{Range, ReadFault, NoMemory}

-- a checker that was fed the bytes, or refused each text that begins with them
pub record HasRead (checker : CheckerData) (bytes : List ℕ) : Type 0 where
  pub fed : checker.refused ≡ None → bytes_so_far checker ≡ bytes
  pub refused : (answer : RefusedText) → checker.refused ≡ Some answer → (answer ≡ refused.NoMemory) ⊎ IsRefusedForGood bytes answer

-- whatever bytes the checker had read, it has read them and the piece
abbrev pub Feeds : CheckerData → List ℕ → CheckerData → Type 0
Feeds old piece new = (bytes : List ℕ) → HasRead old bytes → HasRead new (bytes ++ piece)

-- the checker has read all bytes that were left, and they are within the limit
pub record IsFed (left : Option (List ℕ)) (checker : CheckerData) : Type 0 where
  pub bytes : List ℕ
  pub told : IfSome left (λ told. bytes ≡ told)
  pub within : length bytes ≤ FILE_LIMIT
  pub read : HasRead checker bytes

-- why the bytes that were left were not all read; the counts are those of their source
abbrev pub Unfed : Option (List ℕ) → ℕ → ℕ → Cause → Type 0
Unfed left old_count new_count ReadFault = Rose old_count new_count
Unfed left old_count new_count (Range limit count) = (limit ≡ File) × (count ≡ FILE_LIMIT + 1) × IfSome left (λ told. FILE_LIMIT < length told)
Unfed left old_count new_count NoMemory = Unit {0}
Unfed left old_count new_count cause = ⊥
