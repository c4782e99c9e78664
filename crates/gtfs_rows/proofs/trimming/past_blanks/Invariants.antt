use Rattle.std.proofs.Common.{◌≡◌, length}
use Rattle.gtfs_rows.specs.Records.{drop_blanks}
use Rattle.gtfs_rows.proofs.trimming.past_blanks.Given as goal

abbrev pub invariant-loop-rest : goal.invariant-loop-rest
invariant-loop-rest l = drop_blanks l.rest ≡ drop_blanks l.fn.field

abbrev pub decreases-loop-rest : goal.decreases-loop-rest
decreases-loop-rest l = length l.rest
