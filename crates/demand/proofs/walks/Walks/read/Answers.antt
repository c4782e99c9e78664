use Rattle.std.proofs.Common.{◌∙◌, ap, refl}
use Rattle.std.proofs.lemmas.Result.{err_from_is_err_and}
use Rattle.gtfs_rows.specs.Sheets.{sheet_of}
use Rattle.demand.specs.Columns.{walk_columns, walks_file}
use Rattle.demand.specs.Walks.{walks_faults}
use Rattle.demand.specs.Zones.{ids_of}
use Rattle.demand.proofs.LawLemmas.{walk-law}
use Rattle.demand.proofs.TableLemmas.{same-table, table-rows-refused, table-sheet-refused}
use Rattle.demand.proofs.walks.Walks.read.Goals as goal

pub returns-in_err-sheet-clause-refused : goal.returns-in_err-sheet-clause-refused
returns-in_err-sheet-clause-refused c =
    let p = err_from_is_err_and c.from_residual-in_err-sheet.result c.from_residual-in_err-sheet.ensures.1 in
    rw (p.1, p.2) (table-sheet-refused walks_file c.args.bytes.now c.in_ok-wanted.wanted walk_columns (walks_faults (ids_of c.args.feed.now.stops) (sheet_of c.args.bytes.now walk_columns).rows) c.in_err-sheet.field-0.0
    c.in_ok-wanted.ensures.value c.in_err-sheet.ensures.refused)

pub returns-in_err-list-clause-refused : goal.returns-in_err-list-clause-refused
returns-in_err-list-clause-refused c =
    let p = err_from_is_err_and c.from_residual-in_err-list.result c.from_residual-in_err-list.ensures.1 in
    rw (p.1, p.2) (table-rows-refused walks_file c.args.bytes.now c.in_ok-wanted.wanted walk_columns _ _ c.in_err-list.field-0.0
    c.in_ok-wanted.ensures.value c.in_ok-sheet.ensures.faultless
    (same-table walks_faults c.in_ok-stops.stops (ids_of c.args.feed.now.stops) c.in_ok-sheet.sheet c.args.bytes.now c.in_ok-wanted.wanted walk_columns
    (c.in_ok-stops.ensures.value ∙ ap ids_of c.stops.ensures.value) c.in_ok-sheet.ensures.sheet c.in_ok-wanted.ensures.value)
    c.in_err-list.ensures.refused)

pub returns-clause-numbers : goal.returns-clause-numbers
returns-clause-numbers c = walk-law c.args.feed.now.stops c.in_ok-stops.stops c.in_ok-sheet.sheet.rows c.in_ok-list.list.items (c.in_ok-stops.ensures.value ∙ ap ids_of c.stops.ensures.value)
    c.in_ok-list.ensures.walks c.in_ok-list.ensures.faultless
