-- When each cause comes of a command. What is said of files holds where the folder tells them.
use Rattle.std.specs.Prelude.{◌≡◌, ◌≢◌, ◌⊎◌, ℕ, ◌+◌, List, Option, None, Some}
use Rattle.definitions.specs.declared.limits.TheConstants.{FILE_LIMIT}
use Rattle.service_period.specs.declared.bad_period.BadPeriod.{BadPeriod}
use Rattle.assign.specs.declared.job_fault.JobFault.{JobFault}
use Rattle.assign.specs.JobFaults.{HasUnreachedPair, IsFirstOf}
use Rattle.assign.specs.Printed.{IsInOnePiece, IsPrintOf}
use Rattle.certificate.specs.declared.checking.Verdict.{Verdict}
use Rattle.certificate.specs.declared.refused.Refused.{Refused as RefusedText}
use Rattle.certificate.specs.declared.refused.Refused.TheVariants as refused
use Rattle.certificate.specs.Valid.{IsNoCertificate, NoPlanIsCheaperIn}
use Rattle.certificate.specs.Refusals.{IsRefusedWith}
use Rattle.certificate.specs.Spelling.{Certificate, spelling}
use Rattle.desk.specs.declared.command.Command.{Command}
use Rattle.desk.specs.declared.command.Command.TheVariants.{Assign, Check, Solve, Gen}
use Rattle.desk.specs.declared.status.Limit.{Limit}
use Rattle.desk.specs.declared.status.Limit.TheVariants.{File}
use Rattle.desk.specs.declared.status.UsageFault.TheVariants.{NoFile}
use Rattle.desk.specs.declared.status.Unreached.{Unreached}
use Rattle.desk.specs.declared.status.Unreached.TheVariants.{Node, Pair}
use Rattle.desk.specs.declared.status.Cause.TheVariants.{Usage, Range}
use Rattle.desk.specs.Assigned.{BeginsAssigned, IsAssigned, IsBadPeriod, IsRangeOf, IsRefusedInput, IsRefusedJob, IsUnreachedPair, PassesJobLimit}
use Rattle.desk.specs.GeneratedJobs.{generated_job}
use Rattle.desk.specs.Read.{Files, IsRead, IsMissing, IsTooLong}
use Rattle.desk.specs.Solved.{IsSolved, IsUnreachableNode, IsRefusedNetwork}
use Rattle.desk.specs.Output.{verdict_lines}

-- the command's file is a valid certificate with this verdict, and no plan is cheaper than its bound
pub record IsChecked (files : Files) (command : Option Command) (verdict : Verdict) : Type 0 where
  pub bytes : List ℕ
  pub read : IsRead files command bytes
  pub no_plan_is_cheaper : NoPlanIsCheaperIn bytes verdict

-- the command's file is no valid certificate, and is refused so
pub record IsRefusedCertificate (files : Files) (command : Option Command) (fault : RefusedText) : Type 0 where
  pub bytes : List ℕ
  pub read : IsRead files command bytes
  pub with : IsRefusedWith bytes fault
  pub not_for_memory : fault ≢ refused.NoMemory
  pub invalid : IsNoCertificate bytes

-- ---- by the command

-- the output is what the command prints of its files: what a job prints, the lines of a certificate's verdict, the certificate of a problem, or what the job of a generated city prints
abbrev pub IsOutput : Files → Option Command → List ℕ → Type 0
IsOutput files None output = ⊥
IsOutput files (Some (Assign words)) output = IsAssigned files words output
IsOutput files (Some (Check path)) output = (verdict : Verdict) × IsChecked files (Some (Check path)) verdict × (output ≡ verdict_lines verdict)
IsOutput files (Some (Solve path)) output = (certificate : Certificate) × IsSolved files (Some (Solve path)) certificate × (output ≡ spelling certificate)
IsOutput files (Some (Gen words)) output = IsPrintOf (generated_job words) output

-- bytes begin the output of the command: of the skims of `assign` they may be those to some first zones, and of other output they are all
abbrev pub BeginsOutput : Files → Option Command → List ℕ → Type 0
BeginsOutput files None bytes = ⊥
BeginsOutput files (Some (Assign words)) bytes = BeginsAssigned files words bytes
BeginsOutput files (Some (Check path)) bytes = IsOutput files (Some (Check path)) bytes
BeginsOutput files (Some (Solve path)) bytes = IsOutput files (Some (Solve path)) bytes
BeginsOutput files (Some (Gen words)) bytes = IsOutput files (Some (Gen words)) bytes

-- the command takes all memory before the first byte of its output is written; of `assign` the tables are written page by page
abbrev pub IsWrittenWhole : Option Command → Type 0
IsWrittenWhole None = Unit {0}
IsWrittenWhole (Some (Assign words)) = IsInOnePiece words.print
IsWrittenWhole (Some (Check path)) = Unit {0}
IsWrittenWhole (Some (Solve path)) = Unit {0}
IsWrittenWhole (Some (Gen words)) = Unit {0}

-- ---- why there is no output

-- the command is `assign`, and the texts of its words are no period
abbrev pub HasBadPeriod : Option Command → BadPeriod → Type 0
HasBadPeriod None bad = ⊥
HasBadPeriod (Some (Assign words)) bad = IsBadPeriod words bad
HasBadPeriod (Some (Check path)) bad = ⊥
HasBadPeriod (Some (Solve path)) bad = ⊥
HasBadPeriod (Some (Gen words)) bad = ⊥

-- a file that the command names is not there, and no cause comes before that
abbrev pub LacksFile : Files → Option Command → List ℕ → Type 0
LacksFile files None path = ⊥
LacksFile files (Some (Assign words)) path = IsRefusedInput files words (Usage (NoFile path))
LacksFile files (Some (Check own)) path = IsMissing files (Some (Check own)) path
LacksFile files (Some (Solve own)) path = IsMissing files (Some (Solve own)) path
LacksFile files (Some (Gen words)) path = ⊥

-- a file of the command is too long, as all that it reads of a feed may be, or a limit of its job is passed, and no cause comes before that
abbrev pub PassesLimit : Files → Option Command → Limit → ℕ → Type 0
PassesLimit files None limit count = ⊥
PassesLimit files (Some (Assign words)) limit count = IsRefusedInput files words (Range limit count) ⊎ PassesJobLimit files words limit count
PassesLimit files (Some (Check path)) limit count = (limit ≡ File) × (count ≡ FILE_LIMIT + 1) × IsTooLong files (Some (Check path))
PassesLimit files (Some (Solve path)) limit count = (limit ≡ File) × (count ≡ FILE_LIMIT + 1) × IsTooLong files (Some (Solve path))
PassesLimit files (Some (Gen words)) limit count = IsRangeOf (generated_job words) limit count

-- the command is `assign` or `gen`, and this is the first fault of its job
abbrev pub HasJobFault : Files → Option Command → JobFault → Type 0
HasJobFault files None answer = ⊥
HasJobFault files (Some (Assign words)) answer = IsRefusedJob files words answer
HasJobFault files (Some (Check path)) answer = ⊥
HasJobFault files (Some (Solve path)) answer = ⊥
HasJobFault files (Some (Gen words)) answer = IsFirstOf (generated_job words) answer

-- the command's file is refused so
abbrev pub IsRefused : Files → Option Command → RefusedText → Type 0
IsRefused files None fault = ⊥
IsRefused files (Some (Assign words)) fault = ⊥
IsRefused files (Some (Check path)) fault = IsRefusedCertificate files (Some (Check path)) fault
IsRefused files (Some (Solve path)) fault = IsRefusedNetwork files (Some (Solve path)) fault
IsRefused files (Some (Gen words)) fault = ⊥

-- the first demand that does not reach: for `assign` and `gen` that between two zones, for `solve` that of a node
abbrev pub IsUnreached : Files → Option Command → Unreached → Type 0
IsUnreached files (Some (Assign words)) (Pair origin destination) = IsUnreachedPair files words origin destination
IsUnreached files (Some (Gen words)) (Pair origin destination) = HasUnreachedPair (generated_job words) origin destination
IsUnreached files (Some (Solve path)) (Node node) = IsUnreachableNode files (Some (Solve path)) node
IsUnreached files command unreached = ⊥
