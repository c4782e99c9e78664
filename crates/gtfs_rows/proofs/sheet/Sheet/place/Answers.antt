use Rattle.std.proofs.Common.{arith}
use Rattle.gtfs_rows.proofs.sheet.Sheet.place.Goals as goal

pub overflow_add-result : goal.overflow_add-result
overflow_add-result c = let few = c.rows-rows.ensures.within in let value = c.rows-rows.ensures.value in omega arith
