use Rattle.std.proofs.Common.{map}
use Rattle.std.proofs.lemmas.Result.{err_from_is_err_and}
use Rattle.gtfs_rows.specs.Faults.{sheet_faults}
use Rattle.feed_reader.specs.Columns as columns
use Rattle.feed_reader.specs.FileFaults.{rows_of_bytes}
use Rattle.feed_reader.specs.Calendars.{calendar_dates_faults}
use Rattle.feed_reader.specs.declared.fault.FeedFault.TheVariants as fault
use Rattle.feed_reader.proofs.FaultLemmas.{in-front}
use Rattle.feed_reader.proofs.service_files.read_exception_bytes.Goals as goal

pub returns-in_err-sheet-clause-refused : goal.returns-in_err-sheet-clause-refused
returns-in_err-sheet-clause-refused c =
    let p = err_from_is_err_and c.from_residual-in_err-sheet.result c.from_residual-in_err-sheet.ensures.1 in
    rw (p.1, p.2) (in-front (map fault.Row (sheet_faults columns.calendar_dates_file c.args.bytes.now columns.calendar_date_columns)) (calendar_dates_faults (rows_of_bytes c.args.bytes.now columns.calendar_date_columns))
    c.in_err-sheet.field-0.0 (rw c.in_ok-wanted.ensures.value at c.in_err-sheet.ensures.refused))
