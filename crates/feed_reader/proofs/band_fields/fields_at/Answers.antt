use Rattle.std.specs.Prelude.{codes}
use Rattle.std.proofs.lemmas.Result.{err_from_is_err_and}
use Rattle.feed_reader.specs.BandRows.{clock_faults, exact_faults, headway_faults}
use Rattle.feed_reader.specs.Faults.{row_at}
use Rattle.feed_reader.specs.Frequencies.{begin_field, end_field}
use Rattle.feed_reader.proofs.BandLemmas.{first-of-four, second-of-four, third-of-four}
use Rattle.feed_reader.proofs.band_fields.fields_at.Goals as goal

pub returns-in_err-begins-clause-refused : goal.returns-in_err-begins-clause-refused
returns-in_err-begins-clause-refused c =
    let p = err_from_is_err_and c.from_residual.result c.from_residual.ensures.1 in
    rw (p.1, p.2) (first-of-four (clock_faults c.args.row (codes "start_time") (begin_field (row_at c.args.sheet.now.rows c.args.row)))
    (clock_faults c.args.row (codes "end_time") (end_field (row_at c.args.sheet.now.rows c.args.row))) (headway_faults c.args.sheet.now.rows c.args.row) (exact_faults c.args.sheet.now.rows c.args.row) c.in_err-begins.field-0.0 c.in_err-begins.ensures.refused)

pub returns-in_err-ends-clause-refused : goal.returns-in_err-ends-clause-refused
returns-in_err-ends-clause-refused c =
    let p = err_from_is_err_and c.from_residual-in_err-ends.result c.from_residual-in_err-ends.ensures.1 in
    rw (p.1, p.2) (second-of-four (clock_faults c.args.row (codes "start_time") (begin_field (row_at c.args.sheet.now.rows c.args.row)))
    (clock_faults c.args.row (codes "end_time") (end_field (row_at c.args.sheet.now.rows c.args.row))) (headway_faults c.args.sheet.now.rows c.args.row) (exact_faults c.args.sheet.now.rows c.args.row) c.in_err-ends.field-0.0 c.in_ok-begins.ensures.faultless c.in_err-ends.ensures.refused)

pub returns-in_err-headway-clause-refused : goal.returns-in_err-headway-clause-refused
returns-in_err-headway-clause-refused c =
    let p = err_from_is_err_and c.from_residual-in_err-headway.result c.from_residual-in_err-headway.ensures.1 in
    rw (p.1, p.2) (third-of-four (clock_faults c.args.row (codes "start_time") (begin_field (row_at c.args.sheet.now.rows c.args.row)))
    (clock_faults c.args.row (codes "end_time") (end_field (row_at c.args.sheet.now.rows c.args.row))) (headway_faults c.args.sheet.now.rows c.args.row) (exact_faults c.args.sheet.now.rows c.args.row) c.in_err-headway.field-0.0 c.in_ok-begins.ensures.faultless c.in_ok-ends.ensures.faultless c.in_err-headway.ensures.refused)
