use Rattle.std.proofs.Common.{◌∙◌, ◌<◌, ◌≤◌, refl, length, arith}
use Rattle.std.proofs.lemmas.Result.{err_from_is_err_and}
use Rattle.scenarios.specs.Faults.{row_faults}
use Rattle.scenarios.proofs.FaultLemmas.{rows-done, rows-first, rows-more}
use Rattle.scenarios.proofs.rows.read_rows.Goals as goal

pub loop-row-init : goal.loop-row-init
loop-row-init c = record { scenario = c.in_ok-scenario.ensures.value ∙ rw (c.len.ensures.value, c.len-2.ensures.value) refl; faultless = refl }

pub returns-in_err-read_row-clause-refused : goal.returns-in_err-read_row-clause-refused
returns-in_err-read_row-clause-refused c =
    let p = err_from_is_err_and c.from_residual-in_err-read_row.result c.from_residual-in_err-read_row.ensures.1 in
    let lt : c.loop-row.row < length c.args.sheet.now.rows = omega arith in
    rw (p.1, p.2) (rows-first (row_faults c.args.routes.now c.args.stops.now c.args.sheet.now.rows) (length c.args.sheet.now.rows) c.loop-row.row c.in_err-read_row.field-0.0 lt c.loop-row.invariant.faultless c.in_err-read_row.ensures.refused)

pub loop-row-preserved : goal.loop-row-preserved
loop-row-preserved c =
    let lt : c.loop-row.row < length c.args.sheet.now.rows = omega arith in
    record {
      scenario = c.in_ok-read_row.ensures.scenario;
      faultless = rows-more (row_faults c.args.routes.now c.args.stops.now c.args.sheet.now.rows) (length c.args.sheet.now.rows) c.loop-row.row lt c.loop-row.invariant.faultless c.in_ok-read_row.ensures.faultless;
    }

pub returns-clause-faultless : goal.returns-clause-faultless
returns-clause-faultless c =
    let le : length c.args.sheet.now.rows ≤ c.loop-row.row = omega arith in
    rows-done (row_faults c.args.routes.now c.args.stops.now c.args.sheet.now.rows) (length c.args.sheet.now.rows) c.loop-row.row le c.loop-row.invariant.faultless
