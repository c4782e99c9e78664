use Rattle.std.specs.Prelude.{codes, flat_map}
use Rattle.std.specs.List.{range_with_len}
use Rattle.std.proofs.lemmas.Result.{err_from_is_err_and}
use Rattle.feed_reader.specs.Calendars.{date_faults, day_faults}
use Rattle.feed_reader.specs.Columns.{calendar_file}
use Rattle.feed_reader.specs.Faults.{field, row_at}
use Rattle.feed_reader.proofs.CalendarLemmas.{second-of-three, third-of-three}
use Rattle.feed_reader.proofs.calendars.days_and_dates.Goals as goal

pub returns-in_err-first-clause-refused : goal.returns-in_err-first-clause-refused
returns-in_err-first-clause-refused c =
    let p = err_from_is_err_and c.from_residual-in_err-first.result c.from_residual-in_err-first.ensures.1 in
    rw (p.1, p.2) (second-of-three (flat_map (day_faults c.args.row (row_at c.args.sheet.now.rows c.args.row)) (range_with_len 0 7))
    (date_faults calendar_file c.args.row (codes "start_date") (field (row_at c.args.sheet.now.rows c.args.row) 8)) (date_faults calendar_file c.args.row (codes "end_date") (field (row_at c.args.sheet.now.rows c.args.row) 9))
    c.in_err-first.field-0.0 c.in_ok-days.ensures.faultless c.in_err-first.ensures.refused)

pub returns-in_err-last-clause-refused : goal.returns-in_err-last-clause-refused
returns-in_err-last-clause-refused c =
    let p = err_from_is_err_and c.from_residual-in_err-last.result c.from_residual-in_err-last.ensures.1 in
    rw (p.1, p.2) (third-of-three (flat_map (day_faults c.args.row (row_at c.args.sheet.now.rows c.args.row)) (range_with_len 0 7))
    (date_faults calendar_file c.args.row (codes "start_date") (field (row_at c.args.sheet.now.rows c.args.row) 8)) (date_faults calendar_file c.args.row (codes "end_date") (field (row_at c.args.sheet.now.rows c.args.row) 9))
    c.in_err-last.field-0.0 c.in_ok-days.ensures.faultless c.in_ok-first.ensures.faultless c.in_err-last.ensures.refused)
