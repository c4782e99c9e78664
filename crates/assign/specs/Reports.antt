-- All reports of a job in memory. Here: docs/FORMATS.md.
use Rattle.std.specs.Prelude.{◌≡◌, ℕ, ◌+◌, ◌<◌, List, Option, length, take}
use Rattle.desk_io.specs.Told.{Appends}
use Rattle.assign.specs.Jobs.{JobData, printing_all}
use Rattle.assign.specs.Printed.{IsPrintOf}
use Rattle.assign.specs.declared.job_fault.JobFault.{JobFault}
use Rattle.assign.specs.declared.job_fault.JobFault.TheVariants as fault
use Rattle.assign.specs.declared.job_fault.Limit.TheVariants as limit
use Rattle.assign.specs.declared.reports.TheConstants.{DOCUMENT_LIMIT}

-- the fault of reports that are longer than a document
abbrev pub too_long : JobFault
too_long = fault.Range limit.Document (DOCUMENT_LIMIT + 1)

-- all reports of a job are longer than a document
pub record HasLongReport (job : JobData) : Type 0 where
  pub bytes : List ℕ
  pub is_print : IsPrintOf (printing_all job) bytes
  pub longer : DOCUMENT_LIMIT < length bytes

-- some first bytes of a text, and not all, were written
pub record IsCutShort (text : List ℕ) (old new : Option (List ℕ)) : Type 0 where
  pub count : ℕ
  pub fewer : count < length text
  pub appended : Appends old new (take count text)

-- a text in memory, how many bytes it may have, and how many writes to it failed
pub record DocumentData : Type 0 where
  pub text : List ℕ
  pub limit : ℕ
  pub faults : ℕ

-- a text has the limit that it had before
abbrev pub KeepsLimit : DocumentData → DocumentData → Type 0
KeepsLimit old new = (limit : ℕ) → old.limit ≡ limit → new.limit ≡ limit
