use Rattle.std.proofs.Common.{◌≡◌, drop}
use Rattle.std.specs.Prelude.{option_map}
use Rattle.gtfs_rows.specs.Fields.{ymd_of}
use Rattle.service_period.specs.Services.{last_exception}
use Rattle.service_period.proofs.ServiceLemmas.{said_after}
use Rattle.service_period.proofs.running.last_adds.Given as goal

abbrev pub invariant-loop-exception : goal.invariant-loop-exception
invariant-loop-exception l =
    said_after l.service (ymd_of l.date) l.adds (drop l.exception-index l.exceptions)
    ≡ option_map (λ exception. exception.adds) (last_exception l.exceptions l.service (ymd_of l.date))
