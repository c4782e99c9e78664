use Rattle.std.proofs.lemmas.Result.{err_from_is_err_and}
use Rattle.gtfs_rows.specs.Faults.{column_faults}
use Rattle.gtfs_rows.proofs.FaultLemmas.{is-first-at}
use Rattle.gtfs_rows.proofs.header.places_of.Goals as goal

pub returns-in_err-judge-clause-refused : goal.returns-in_err-judge-clause-refused
returns-in_err-judge-clause-refused c =
    let p = err_from_is_err_and c.from_residual.result c.from_residual.ensures.1 in
    rw (p.1, p.2) (is-first-at (column_faults c.args.file.now c.args.header.now) c.args.wanted.now c.loop-column.column-index c.column-item.result c.in_err-judge.field-0.0
    c.loop-column-test.true c.column-item.is c.loop-column.invariant.faultless c.in_err-judge.ensures.refused)
