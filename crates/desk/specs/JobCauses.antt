-- A fault of a job as the cause of its run.
use Rattle.service_period.specs.declared.bad_period.BadPeriod.{BadPeriod}
use Rattle.service_period.specs.declared.bad_period.BadPeriod.TheVariants as bad
use Rattle.assign.specs.declared.job_fault.Limit.{Limit as JobLimit}
use Rattle.assign.specs.declared.job_fault.Limit.TheVariants as job_limit
use Rattle.assign.specs.declared.job_fault.JobFault.{JobFault}
use Rattle.assign.specs.declared.job_fault.JobFault.TheVariants as fault
use Rattle.desk.specs.declared.status.Limit.{Limit}
use Rattle.desk.specs.declared.status.Limit.TheVariants as limit
use Rattle.desk.specs.declared.status.UsageFault.{UsageFault}
use Rattle.desk.specs.declared.status.UsageFault.TheVariants.{Date, Window}
use Rattle.desk.specs.declared.status.Unreached.TheVariants.{Pair}
use Rattle.desk.specs.declared.status.Cause.{Cause}
use Rattle.desk.specs.declared.status.Cause.TheVariants.{Feed, Demand, Scenario, Range, WriteFault, NoMemory, Unreachable}

-- a limit of a job
abbrev pub limit_of : JobLimit → Limit
limit_of job_limit.Zones = limit.Zones
limit_of job_limit.Units = limit.Units
limit_of job_limit.Weight = limit.Weight
limit_of job_limit.Cost = limit.Cost
limit_of job_limit.Nodes = limit.Nodes
limit_of job_limit.Arcs = limit.Arcs
limit_of job_limit.Document = limit.Document

-- a fault of a job
abbrev pub cause_of : JobFault → Cause
cause_of (fault.Feed found) = Feed found
cause_of (fault.Demand found) = Demand found
cause_of (fault.Scenario found) = Scenario found
cause_of (fault.Unreachable origin destination) = Unreachable (Pair origin destination)
cause_of (fault.Range name count) = Range (limit_of name) count
cause_of (fault.WriteFault sent) = WriteFault sent
cause_of fault.NoMemory = NoMemory

-- why texts are no period, as what is wrong with the words
abbrev pub usage_of : BadPeriod → UsageFault
usage_of bad.Date = Date
usage_of bad.Window = Window
