use Rattle.skims.specs.Filling.{IsFilledTo}
use Rattle.skims.proofs.filling.fill_rows.Given as goal

abbrev pub invariant-loop-place : goal.invariant-loop-place
invariant-loop-place l = IsFilledTo l.city l.goal l.reached l.labels l.order l.place l.rows
