use Rattle.std.proofs.Common.{◌≡◌, false, refl}
use Rattle.std.specs.Prelude.{codes}
use Rattle.std.proofs.lemmas.Result.{err_from_is_err_and}
use Rattle.feed_reader.specs.CalendarParts.{exception_type_faults}
use Rattle.feed_reader.specs.Calendars.{date_faults, service_id}
use Rattle.feed_reader.specs.Columns.{calendar_dates_file}
use Rattle.feed_reader.specs.Faults.{bad_field, fault_if, field, is_empty, place_in, row_at}
use Rattle.feed_reader.proofs.CalendarLemmas.{second-of-three}
use Rattle.feed_reader.proofs.exceptions.exception_at.Goals as goal

pub returns-in_err-date-clause-refused : goal.returns-in_err-date-clause-refused
returns-in_err-date-clause-refused c =
    let p = err_from_is_err_and c.from_residual.result c.from_residual.ensures.1 in
    let some : is_empty (service_id (row_at c.args.sheet.now.rows c.args.row)) ≡ false = cc in
    rw (p.1, p.2) (second-of-three (fault_if (is_empty (service_id (row_at c.args.sheet.now.rows c.args.row)))
    (bad_field (place_in calendar_dates_file c.args.row (codes "service_id") (service_id (row_at c.args.sheet.now.rows c.args.row)))))
    (date_faults calendar_dates_file c.args.row (codes "date") (field (row_at c.args.sheet.now.rows c.args.row) 1)) (exception_type_faults c.args.sheet.now.rows c.args.row)
    c.in_err-date.field-0.0 (rw some refl) c.in_err-date.ensures.refused)
