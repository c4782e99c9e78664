use Rattle.std.proofs.Common.{arith, ◌*◌, ◌+◌}
use Rattle.gtfs_rows.proofs.RowLemmas.{cell-within}
use Rattle.gtfs_rows.proofs.FieldTextLemmas.{text-at}
use Rattle.gtfs_rows.proofs.sheet.cell.Goals as goal

pub overflow_mul-row : goal.overflow_mul-row
overflow_mul-row c = let w = cell-within c.args.width c.args.count c.args.fields.now c.args.row c.args.column c.requires.shape c.requires.row c.requires.column in let small = c.len-length.ensures.value in omega (arith, w)

pub overflow_add-row : goal.overflow_add-row
overflow_add-row c = let w = cell-within c.args.width c.args.count c.args.fields.now c.args.row c.args.column c.requires.shape c.requires.row c.requires.column in let small = c.len-length.ensures.value in omega (arith, w)

pub get-requires : goal.get-requires
get-requires c = record { place = (cell-within c.args.width c.args.count c.args.fields.now c.args.row c.args.column c.requires.shape c.requires.row c.requires.column).0 }

pub returns-clause-text : goal.returns-clause-text
returns-clause-text c = rw c.get.ensures.value (text-at c.args.fields.now (c.args.row * c.args.width + c.args.column) c.requires.shape.text)
