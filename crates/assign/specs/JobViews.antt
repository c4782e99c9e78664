-- What contracts see of a job.
use Rattle.std.specs.Option.{option_copied}
use Rattle.assign.specs.declared.job_parts.Job.{Job}
use Rattle.assign.specs.Jobs.{JobData}

-- the files, the bytes and the period of a job, and what is asked for
abbrev pub job_of : Job → JobData
job_of job = record {
  files = job.files.now;
  zones = job.zones.now;
  walks = option_copied job.walks;
  demand = job.demand.now;
  scenario = option_copied job.scenario;
  period = job.period;
  print = job.print;
  to_zone = option_copied job.to_zone;
}
