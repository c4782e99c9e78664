-- How the parts of a run end, by the cause that they answer.
use Rattle.std.specs.Prelude.{◌≡◌, ◌⊎◌, ℕ, ◌<◌, List, length, take, Option, Some}
use Rattle.definitions.specs.Causes.{Rose}
use Rattle.desk_io.specs.Told.{Appends}
use Rattle.certificate.specs.declared.checking.Verdict.{Verdict}
use Rattle.certificate.specs.Spelling.{spelling}
use Rattle.certificate.specs.NetworkText.{ProblemData}
use Rattle.certificate.specs.Valid.{IsValid}
use Rattle.loading.specs.Loads.{IsFirstUnreachable}
use Rattle.assign.specs.declared.job_fault.JobFault.TheVariants as fault
use Rattle.assign.specs.JobFaults.{HasUnreachedPair, IsFirstOf}
use Rattle.assign.specs.Jobs.{JobData}
use Rattle.assign.specs.Printed.{AppendsFrontOf, AppendsPart, AppendsSome, BeginsPrintOf, IsInOnePiece, IsPrintOf}
use Rattle.desk.specs.declared.command.Command.{Command}
use Rattle.desk.specs.declared.command.Command.TheVariants.{Check, Solve}
use Rattle.desk.specs.declared.status.UsageFault.TheVariants.{NoFile}
use Rattle.desk.specs.declared.status.Unreached.TheVariants.{Node, Pair}
use Rattle.desk.specs.declared.status.Cause.{Cause}
use Rattle.desk.specs.declared.status.Cause.TheVariants.{Done, Usage, Feed, Demand, Scenario, Range, ReadFault, WriteFault, NoMemory, Refused, Unreachable}
use Rattle.desk.specs.Assigned.{IsRangeOf}
use Rattle.desk.specs.InputFaults.{IsUnread}
use Rattle.desk.specs.Output.{verdict_lines}
use Rattle.desk.specs.Outcome.{IsDue, PrintedFront, PrintedInPart, PrintedWhole}
use Rattle.desk.specs.Read.{Files, Reads}
use Rattle.desk.specs.Solved.{IsSolution, IsRefusedNetwork, certificate_with}
use Rattle.desk.specs.When.{IsRefusedCertificate, IsWrittenWhole}

-- an output over a call: its count of faults and its bytes, before and after
pub record Writes : Type 0 where
  pub old_count : ℕ
  pub new_count : ℕ
  pub old : Option (List ℕ)
  pub new : Option (List ℕ)

-- the cause names the path of a file that is not there, or tells that there is no memory for it
abbrev pub NamesPath : List ℕ → Cause → Type 0
NamesPath path (Usage (NoFile name)) = name ≡ path
NamesPath path NoMemory = Unit {0}
NamesPath path cause = ⊥

-- ---- check

-- why the file at the path has no verdict
abbrev pub Unchecked : Reads → List ℕ → Cause → Type 0
Unchecked reads path (Refused fault) = IsRefusedCertificate reads.files (Some (Check path)) fault
Unchecked reads path cause = IsUnread reads path cause

-- how the printing of a verdict ends
abbrev pub EndsPrinting : Verdict → Writes → Cause → Type 0
EndsPrinting verdict writes Done = Appends writes.old writes.new (verdict_lines verdict)
EndsPrinting verdict writes (WriteFault sent) =
    (sent < length (verdict_lines verdict)) × Appends writes.old writes.new (take sent (verdict_lines verdict)) × Rose writes.old_count writes.new_count
EndsPrinting verdict writes NoMemory = writes.new ≡ writes.old
EndsPrinting verdict writes cause = ⊥

-- ---- solve

-- why the file at the path has no problem
abbrev pub Unposed : Reads → List ℕ → Cause → Type 0
Unposed reads path (Refused fault) = IsRefusedNetwork reads.files (Some (Solve path)) fault
Unposed reads path cause = IsUnread reads path cause

-- the certificate of the problem was appended, and it is valid
pub record SolvesWhole (problem : ProblemData) (old new : Option (List ℕ)) : Type 0 where
  pub labels : List ℕ
  pub volumes : List ℕ
  pub waits : List ℕ
  pub solution : IsSolution problem labels volumes waits
  pub valid : IsValid (certificate_with problem labels volumes waits)
  pub appended : Appends old new (spelling (certificate_with problem labels volumes waits))

-- only the first bytes, so many, of the certificate of the problem were appended
pub record SolvesInPart (problem : ProblemData) (old new : Option (List ℕ)) (sent : ℕ) : Type 0 where
  pub labels : List ℕ
  pub volumes : List ℕ
  pub waits : List ℕ
  pub solution : IsSolution problem labels volumes waits
  pub part : sent < length (spelling (certificate_with problem labels volumes waits))
  pub appended : Appends old new (take sent (spelling (certificate_with problem labels volumes waits)))

-- how the printing of a problem's certificate ends, and the certificate that is printed is valid
abbrev pub EndsSolving : ProblemData → Writes → Cause → Type 0
EndsSolving problem writes Done = SolvesWhole problem writes.old writes.new
EndsSolving problem writes (WriteFault sent) = Rose writes.old_count writes.new_count × SolvesInPart problem writes.old writes.new sent
EndsSolving problem writes (Unreachable (Node node)) =
    IsFirstUnreachable problem.network problem.destination problem.demand node × (writes.new ≡ writes.old)
EndsSolving problem writes NoMemory = writes.new ≡ writes.old
EndsSolving problem writes cause = ⊥

-- ---- assign

-- what want of memory leaves behind of what a job prints: nothing, or its first bytes; and nothing where all memory is taken first
pub record LeavesFront (job : JobData) (old new : Option (List ℕ)) : Type 0 where
  pub front : (new ≡ old) ⊎ AppendsFrontOf (BeginsPrintOf job) old new
  pub in_one_piece : IsInOnePiece job.print → new ≡ old

-- how the printing of a job ends
abbrev pub EndsJob : JobData → Writes → Cause → Type 0
EndsJob job writes Done = AppendsSome (IsPrintOf job) writes.old writes.new
EndsJob job writes (WriteFault sent) = Rose writes.old_count writes.new_count × AppendsPart (BeginsPrintOf job) sent writes.old writes.new
EndsJob job writes (Feed found) = IsFirstOf job (fault.Feed found) × (writes.new ≡ writes.old)
EndsJob job writes (Demand found) = IsFirstOf job (fault.Demand found) × (writes.new ≡ writes.old)
EndsJob job writes (Scenario found) = IsFirstOf job (fault.Scenario found) × (writes.new ≡ writes.old)
EndsJob job writes (Range limit count) = IsRangeOf job limit count × (writes.new ≡ writes.old)
EndsJob job writes (Unreachable (Pair origin destination)) = HasUnreachedPair job origin destination × (writes.new ≡ writes.old)
EndsJob job writes NoMemory = LeavesFront job writes.old writes.new
EndsJob job writes cause = ⊥

-- ---- each command

-- what want of memory leaves behind of a command's output: nothing, or its first bytes; and nothing where all memory is taken first
pub record WantsMemory (files : Files) (command : Option Command) (old new : Option (List ℕ)) : Type 0 where
  pub front : (new ≡ old) ⊎ PrintedFront files command old new
  pub in_one_piece : IsWrittenWhole command → new ≡ old

-- how a command ends
abbrev pub EndsCommand : Reads → Writes → Option Command → Cause → Type 0
EndsCommand reads writes command Done = PrintedWhole reads.files command writes.old writes.new
EndsCommand reads writes command ReadFault = Rose reads.old_count reads.new_count × (writes.new ≡ writes.old)
EndsCommand reads writes command (WriteFault sent) =
    Rose writes.old_count writes.new_count × PrintedInPart reads.files command writes.old writes.new sent
EndsCommand reads writes command NoMemory = WantsMemory reads.files command writes.old writes.new
EndsCommand reads writes command cause = IsDue reads.files command cause × (writes.new ≡ writes.old)
