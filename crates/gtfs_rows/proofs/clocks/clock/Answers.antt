use Rattle.std.proofs.Common.{◌∙◌}
use Rattle.gtfs_rows.proofs.ClockLemmas.{no-colon, no-second-colon}
use Rattle.gtfs_rows.proofs.clocks.clock.Goals as goal

pub returns-in_err-rest : goal.returns-in_err-rest
returns-in_err-rest c = record { value = c.from_residual.ensures ∙ no-colon c.args.field.now (rw c.in_err-rest.was at c.parted.ensures.behind) }

pub returns-in_err-seconds : goal.returns-in_err-seconds
returns-in_err-seconds c =
    let rest = rw c.in_ok-rest.was at c.parted.ensures.behind in
    record { value = c.from_residual-in_err-seconds.ensures ∙ no-second-colon c.args.field.now (rw (c.in_err-seconds.was, rest.1) at c.parted-2.ensures.behind) }
