-- What comes of a command. What is said of files holds where the folder tells them.
use Rattle.std.specs.Prelude.{◌≡◌, ◌⊎◌, ℕ, ◌<◌, ◌≤◌, List, [], length, take, Option, None, Some}
use Rattle.definitions.specs.Causes.{Rose}
use Rattle.desk_io.specs.Told.{Appends}
use Rattle.service_period.specs.declared.bad_period.BadPeriod.TheVariants as bad
use Rattle.assign.specs.declared.job_fault.JobFault.TheVariants as fault
use Rattle.desk.specs.declared.command.Command.{Command}
use Rattle.desk.specs.declared.command.Command.TheVariants.{Assign, Check, Solve, Gen}
use Rattle.desk.specs.declared.status.UsageFault.TheVariants.{Words, Date, Window, NoFile}
use Rattle.desk.specs.declared.status.Cause.{Cause}
use Rattle.desk.specs.declared.status.Cause.TheVariants.{Done, Usage, Feed, Demand, Scenario, Range, ReadFault, WriteFault, NoMemory, Refused, Unreachable}
use Rattle.desk.specs.Read.{Files}
use Rattle.desk.specs.When.{BeginsOutput, HasBadPeriod, HasJobFault, IsOutput, IsRefused, IsUnreached, IsWrittenWhole, LacksFile, PassesLimit}

-- the command's output was appended
pub record PrintedWhole (files : Files) (command : Option Command) (old new : Option (List ℕ)) : Type 0 where
  pub output : List ℕ
  pub is : IsOutput files command output
  pub appended : Appends old new output

-- only the first bytes, so many, of what begins the command's output were appended
pub record PrintedInPart (files : Files) (command : Option Command) (old new : Option (List ℕ)) (sent : ℕ) : Type 0 where
  pub begun : List ℕ
  pub begins : BeginsOutput files command begun
  pub part : sent < length begun
  pub appended : Appends old new (take sent begun)

-- some first bytes, maybe none or all, of what begins the command's output were appended
pub record PrintedFront (files : Files) (command : Option Command) (old new : Option (List ℕ)) : Type 0 where
  pub begun : List ℕ
  pub begins : BeginsOutput files command begun
  pub count : ℕ
  pub within : count ≤ length begun
  pub appended : Appends old new (take count begun)

-- some first bytes, maybe none or all, of an output were appended
pub record AppendsFront (output : List ℕ) (old new : Option (List ℕ)) : Type 0 where
  pub count : ℕ
  pub within : count ≤ length output
  pub appended : Appends old new (take count output)

-- a cause after which nothing was appended to the output of the command
abbrev pub WritesNothing : Option Command → Cause → Type 0
WritesNothing command Done = ⊥
WritesNothing command (WriteFault sent) = ⊥
WritesNothing command NoMemory = IsWrittenWhole command
WritesNothing command cause = Unit {0}

-- the cause lies outside: a fault of the folder or the output, or want of memory
abbrev pub LiesOutside : Cause → Type 0
LiesOutside ReadFault = Unit {0}
LiesOutside (WriteFault sent) = Unit {0}
LiesOutside NoMemory = Unit {0}
LiesOutside cause = ⊥

-- when a cause comes that is neither done nor lies outside
abbrev pub IsDue : Files → Option Command → Cause → Type 0
IsDue files command (Usage Words) = command ≡ None
IsDue files command (Usage Date) = HasBadPeriod command bad.Date
IsDue files command (Usage Window) = HasBadPeriod command bad.Window
IsDue files command (Usage (NoFile path)) = LacksFile files command path
IsDue files command (Feed found) = HasJobFault files command (fault.Feed found)
IsDue files command (Demand found) = HasJobFault files command (fault.Demand found)
IsDue files command (Scenario found) = HasJobFault files command (fault.Scenario found)
IsDue files command (Range limit count) = PassesLimit files command limit count
IsDue files command (Unreachable unreached) = IsUnreached files command unreached
IsDue files command (Refused found) = IsRefused files command found
IsDue files command cause = ⊥

-- what comes of a command over a folder's files, where the cause does not lie outside: the cause, and the output
abbrev pub IsOutcome : List (List ℕ × List ℕ) → Option Command → Cause → List ℕ → Type 0
IsOutcome files command Done output = IsOutput (Some files) command output
IsOutcome files command cause output = IsDue (Some files) command cause × (output ≡ [])

-- ---- completeness

-- an outcome that is the only one
pub record IsOnlyOutcome (files : List (List ℕ × List ℕ)) (command : Option Command) (cause : Cause) (output : List ℕ) : Type 0 where
  pub comes : IsOutcome files command cause output
  pub alone : (other : Cause) (bytes : List ℕ) → IsOutcome files command other bytes → (other ≡ cause) × (bytes ≡ output)

-- a count did not rise: it is as it was, and does not stand at its last value
abbrev pub DidNotRise : ℕ → ℕ → Type 0
DidNotRise old new = Rose old new → ⊥

-- the command has just one outcome, and it was answered and its output appended, or memory was wanting
pub record IsDueAnswered (files : List (List ℕ × List ℕ)) (command : Option Command) (cause : Cause) (old new : Option (List ℕ)) : Type 0 where
  pub due : Cause
  pub output : List ℕ
  pub outcome : IsOnlyOutcome files command due output
  pub answered : (cause ≡ NoMemory) ⊎ ((cause ≡ due) × Appends old new output)

-- the one outcome of the command was answered, and its output appended
pub record IsOutcomeAnswered (files : List (List ℕ × List ℕ)) (command : Option Command) (cause : Cause) (old new : Option (List ℕ)) : Type 0 where
  pub output : List ℕ
  pub outcome : IsOnlyOutcome files command cause output
  pub appended : Appends old new output

-- the one outcome of the command was answered, or memory was wanting; that there is one is said of `check`, and of words that are refused
abbrev pub Completes : List (List ℕ × List ℕ) → Option Command → Cause → Option (List ℕ) → Option (List ℕ) → Type 0
Completes files None cause old new = IsDueAnswered files None cause old new
Completes files (Some (Assign words)) cause old new = (cause ≡ NoMemory) ⊎ IsOutcomeAnswered files (Some (Assign words)) cause old new
Completes files (Some (Check path)) cause old new = IsDueAnswered files (Some (Check path)) cause old new
Completes files (Some (Solve path)) cause old new = (cause ≡ NoMemory) ⊎ IsOutcomeAnswered files (Some (Solve path)) cause old new
Completes files (Some (Gen words)) cause old new = (cause ≡ NoMemory) ⊎ IsOutcomeAnswered files (Some (Gen words)) cause old new
