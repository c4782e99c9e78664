use Rattle.std.proofs.Common.{◌<◌, length, arith}
use Rattle.std.proofs.lemmas.Result.{err_from_is_err_and}
use Rattle.feed_reader.specs.Stops.{stop_faults}
use Rattle.feed_reader.proofs.FaultLemmas.{first-of-rows, none-more}
use Rattle.feed_reader.proofs.stop_ids.read_stop_ids.Goals as goal

pub returns-in_err-note_row-clause-refused : goal.returns-in_err-note_row-clause-refused
returns-in_err-note_row-clause-refused c =
    let p = err_from_is_err_and c.from_residual.result c.from_residual.ensures.1 in
    let lt : c.loop-row.row < length c.args.sheet.now.rows = omega arith in
    rw (p.1, p.2) (first-of-rows (stop_faults c.args.sheet.now.rows) c.args.sheet.now.rows c.loop-row.row c.in_err-note_row.field-0.0 lt c.loop-row.invariant.none c.in_err-note_row.ensures.refused)

pub loop-row-preserved : goal.loop-row-preserved
loop-row-preserved c = record {
  ids = c.in_ok-note_row.ensures.noted;
  none = none-more (stop_faults c.args.sheet.now.rows) c.loop-row.row c.loop-row.invariant.none c.in_ok-note_row.ensures.faultless;
}
