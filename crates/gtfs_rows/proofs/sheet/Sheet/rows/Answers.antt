use Rattle.std.proofs.Common.{sym}
use Rattle.gtfs_rows.proofs.RowLemmas.{length-rows}
use Rattle.gtfs_rows.proofs.sheet.Sheet.rows.Goals as goal

pub returns-clause-value : goal.returns-clause-value
returns-clause-value c = rw (← c.self.view_is) (sym (length-rows c.self.inside.width c.self.inside.count c.self.inside.fields))
