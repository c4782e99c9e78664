use Rattle.std.proofs.lemmas.Result.{err_from_is_err_and}
use Rattle.gtfs_rows.specs.Faults.{sheet_faults}
use Rattle.scenarios.specs.Edits.{scenario_columns}
use Rattle.scenarios.specs.Faults.{scenario_file}
use Rattle.scenarios.proofs.SheetLemmas.{sheet-refused}
use Rattle.scenarios.proofs.rows.read_sheet.Goals as goal

pub returns-in_err-read-clause-refused : goal.returns-in_err-read-clause-refused
returns-in_err-read-clause-refused c =
    let p = err_from_is_err_and c.from_residual-in_err-read.result c.from_residual-in_err-read.ensures.1 in
    rw p.1 (sheet-refused (sheet_faults scenario_file c.args.bytes.now scenario_columns) c.in_err-read.field-0.0 p.0 (rw c.in_ok-wanted.ensures.value at c.in_err-read.ensures.refused) p.2)
