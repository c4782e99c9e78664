-- The fields of a checker: what they say, and what they keep.
use Rattle.std.specs.Prelude.{◌≡◌, ℕ, List, ◌++◌, length, None, Err}
use Rattle.certificate.specs.declared.fault.Fault.TheVariants as fault
use Rattle.certificate.specs.declared.checker.reading.Reading.{Reading}
use Rattle.certificate.specs.declared.checker.Checker.TheInside.{Inside}
use Rattle.certificate.specs.Draft.{text_so_far}
use Rattle.certificate.specs.NextLine.{line_at}
use Rattle.certificate.specs.Kept.{IsKept}
use Rattle.certificate.specs.Fed.{CheckerData}

-- the bytes that were read, and the part
abbrev pub bytes_of : Reading → List ℕ
bytes_of r = text_so_far r.draft ++ r.part.items

-- the lines so far are counted
pub record IsCounted (r : Reading) : Type 0 where
  pub kept : IsKept r.draft
  pub before : r.before ≡ length (text_so_far r.draft)

-- and the part is not ended
pub record IsReading (r : Reading) : Type 0 where
  pub counted : IsCounted r
  pub stops : line_at r.draft r.part.items ≡ Err (fault.Stop 0)

-- what the fields say
abbrev pub checker_of : Inside → CheckerData
checker_of a = record { draft = a.reading.draft; part = a.reading.part.items; refused = a.refused }

-- a checker that has not refused reads on
abbrev pub IsChecker : Inside → Type 0
IsChecker a = a.refused ≡ None → IsReading a.reading
