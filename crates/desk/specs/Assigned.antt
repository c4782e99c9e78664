-- What `assign` makes of the files that its words name: a job, and what it prints of its assignment, or why it prints nothing.
use Rattle.std.specs.Prelude.{◌≡◌, ◌≢◌, ℕ, List, [], Option, Some, slice_get}
use Rattle.service_period.specs.Periods.{IsPeriodOf, PeriodData, period_faults}
use Rattle.service_period.specs.declared.bad_period.BadPeriod.{BadPeriod}
use Rattle.assign.specs.declared.job_fault.Limit.{Limit as JobLimit}
use Rattle.assign.specs.declared.job_fault.JobFault.{JobFault}
use Rattle.assign.specs.declared.job_fault.JobFault.TheVariants as fault
use Rattle.assign.specs.declared.print.Print.{Print}
use Rattle.assign.specs.declared.print.Print.TheVariants as print
use Rattle.assign.specs.JobFaults.{HasUnreachedPair, IsFirstOf}
use Rattle.assign.specs.Jobs.{JobData}
use Rattle.assign.specs.Printed.{BeginsPrintOf, IsPrintOf, PrintsCertificate, PrintsTotals}
use Rattle.desk.specs.declared.command.AssignWords.{AssignWords}
use Rattle.desk.specs.declared.inputs.Inputs.{Inputs}
use Rattle.desk.specs.declared.status.Limit.{Limit}
use Rattle.desk.specs.declared.status.Cause.{Cause}
use Rattle.desk.specs.InputFaults.{IsInputFault}
use Rattle.desk.specs.Inputs.{AreInputsOf}
use Rattle.desk.specs.JobCauses.{limit_of}
use Rattle.desk.specs.Read.{Files}

-- the files of a job
abbrev pub inputs_in : JobData → Inputs
inputs_in job = record { files = job.files; zones = job.zones; demand = job.demand; walks = job.walks; scenario = job.scenario }

-- the job of files in a period, of which this is printed, with the zone that is asked for
abbrev pub job_with : Inputs → PeriodData → Print → Option (List ℕ) → JobData
job_with inputs period printed zone = record {
  files = inputs.files;
  zones = inputs.zones;
  walks = inputs.walks;
  demand = inputs.demand;
  scenario = inputs.scenario;
  period = period;
  print = printed;
  to_zone = zone;
}

-- the job is that of the files that the words name, in the period that they write, and prints what they ask for
pub record IsJobOf (files : Files) (words : AssignWords) (job : JobData) : Type 0 where
  pub period : IsPeriodOf words.date words.from words.to job.period
  pub inputs : AreInputsOf files words (inputs_in job)
  pub is_print : job.print ≡ words.print
  pub is_zone : job.to_zone ≡ words.to_zone

-- ---- what is printed

-- the output is what the job of the files prints
pub record IsAssigned (files : Files) (words : AssignWords) (output : List ℕ) : Type 0 where
  pub job : JobData
  pub is_job : IsJobOf files words job
  pub is_print : IsPrintOf job output

-- bytes begin what the job of the files prints: of skims they are those to some first zones, maybe none, and of other prints they are all
pub record BeginsAssigned (files : Files) (words : AssignWords) (bytes : List ℕ) : Type 0 where
  pub job : JobData
  pub is_job : IsJobOf files words job
  pub begins : BeginsPrintOf job bytes
  pub whole : words.print ≢ print.Skims → IsPrintOf job bytes

-- what the job of the files prints was appended, of the totals of its assignment: each destination has a plan, no plans are cheaper than the bound, and the cost is near it
pub record PrintsAssignment (files : Files) (words : AssignWords) (old new : Option (List ℕ)) : Type 0 where
  pub job : JobData
  pub is_job : IsJobOf files words job
  pub prints : PrintsTotals job old new

-- a valid certificate of the zone that is asked for was appended, with the cost and the bound of all demand to there
pub record PrintsZoneCertificate (files : Files) (words : AssignWords) (old new : Option (List ℕ)) : Type 0 where
  pub job : JobData
  pub is_job : IsJobOf files words job
  pub prints : PrintsCertificate job old new

-- ---- why nothing is printed

-- the texts of the words are no period, and this is the first reason
abbrev pub IsBadPeriod : AssignWords → BadPeriod → Type 0
IsBadPeriod words bad = slice_get (period_faults words.date words.from words.to) 0 ≡ Some bad

-- the texts of the words are a period, and this is the first fault of the files that they name
pub record IsRefusedInput (files : Files) (words : AssignWords) (cause : Cause) : Type 0 where
  pub period : period_faults words.date words.from words.to ≡ []
  pub fault : IsInputFault files words cause

-- this is the first fault of the job of the files
pub record IsRefusedJob (files : Files) (words : AssignWords) (answer : JobFault) : Type 0 where
  pub job : JobData
  pub is_job : IsJobOf files words job
  pub first : IsFirstOf job answer

-- the first fault of a job is that this limit is passed
pub record IsRangeOf (job : JobData) (limit : Limit) (count : ℕ) : Type 0 where
  pub name : JobLimit
  pub is : limit ≡ limit_of name
  pub first : IsFirstOf job (fault.Range name count)

-- the first fault of the job of the files is that this limit is passed
pub record PassesJobLimit (files : Files) (words : AssignWords) (limit : Limit) (count : ℕ) : Type 0 where
  pub job : JobData
  pub is_job : IsJobOf files words job
  pub range : IsRangeOf job limit count

-- the first pair of the job of the files that does not reach is the one between zones of these names
pub record IsUnreachedPair (files : Files) (words : AssignWords) (origin destination : List ℕ) : Type 0 where
  pub job : JobData
  pub is_job : IsJobOf files words job
  pub unreached : HasUnreachedPair job origin destination
