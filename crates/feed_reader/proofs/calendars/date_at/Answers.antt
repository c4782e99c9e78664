use Rattle.feed_reader.specs.Faults.{field, row_at}
use Rattle.feed_reader.proofs.CalendarLemmas.{date-bad, date-found, date-good}
use Rattle.feed_reader.proofs.calendars.date_at.Goals as goal

pub returns-in-Some-clause-date : goal.returns-in-Some-clause-date
returns-in-Some-clause-date c = date-found (field (row_at c.args.sheet.now.rows c.args.row) c.args.column) c.field-field.result.now c.in-Some.date c.field-field.ensures.value c.in-Some.ensures.value

pub returns-in-Some-clause-faultless : goal.returns-in-Some-clause-faultless
returns-in-Some-clause-faultless c =
    date-good c.args.file.now c.args.row c.args.name.now (field (row_at c.args.sheet.now.rows c.args.row) c.args.column) c.in-Some.date (returns-in-Some-clause-date c)

pub returns-in-None-clause-refused : goal.returns-in-None-clause-refused
returns-in-None-clause-refused c =
    date-bad c.args.file.now c.args.row c.args.name.now (field (row_at c.args.sheet.now.rows c.args.row) c.args.column) c.field-field.result.now c.bad_field.result c.field-field.ensures.value c.in-None.ensures.value
    c.bad_field.ensures.value
