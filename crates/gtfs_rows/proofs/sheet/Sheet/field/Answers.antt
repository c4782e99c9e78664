use Rattle.std.proofs.Common.{◌∙◌}
use Rattle.gtfs_rows.proofs.RowLemmas.{cell-shown, row-shown}
use Rattle.gtfs_rows.proofs.sheet.Sheet.field.Goals as goal

pub cell-requires-clause-row : goal.cell-requires-clause-row
cell-requires-clause-row c = row-shown c.self.inside.width c.self.inside.count c.self.inside.fields c.args.self.now c.args.row c.self.view_is c.requires.row

pub returns-clause-value : goal.returns-clause-value
returns-clause-value c = c.cell.ensures.value ∙ cell-shown c.self.inside.width c.self.inside.count c.self.inside.fields c.args.self.now c.args.row c.args.column c.self.view_is c.requires.row c.requires.column
