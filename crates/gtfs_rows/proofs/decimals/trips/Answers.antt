use Rattle.gtfs_rows.proofs.DecimalLemmas.{no-point}
use Rattle.gtfs_rows.proofs.decimals.trips.Goals as goal

pub returns-in-None : goal.returns-in-None
returns-in-None c = record { value = no-point c.args.field.now _ c.in_ok-units.field-0 (rw c.in-None.is at c.parted.ensures.behind) c.parted.ensures.before c.in_ok-units.ensures.value }
