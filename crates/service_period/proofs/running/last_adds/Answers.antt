use Rattle.std.proofs.Common.{None}
use Rattle.gtfs_rows.specs.Fields.{ymd_of}
use Rattle.service_period.proofs.ServiceLemmas.{said-last}
use Rattle.service_period.proofs.running.last_adds.Goals as goal

pub loop-exception-init : goal.loop-exception-init
loop-exception-init c = said-last c.args.service (ymd_of c.args.date) None c.args.exceptions.now
