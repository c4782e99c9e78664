use Rattle.std.proofs.Common.{◌≡◌, false}
use Rattle.std.specs.Prelude.{codes}
use Rattle.std.specs.Str.{bytes_eq}
use Rattle.feed_reader.specs.Faults.{row_at}
use Rattle.feed_reader.proofs.CalendarLemmas.{day-bad}
use Rattle.feed_reader.proofs.calendars.day_at.Goals as goal

pub returns-clause-refused : goal.returns-clause-refused
returns-clause-refused c =
    let one : bytes_eq c.text_at-text.result.now (codes "1") ≡ false = cc in
    let none : bytes_eq c.text_at-text.result.now (codes "0") ≡ false = cc in
    day-bad c.args.row c.args.day (row_at c.args.sheet.now.rows c.args.row) c.day_name.result.now c.text_at-text.result.now c.bad_field.result c.text_at-text.ensures.value c.day_name.ensures.name one none
    (rw c.as_bytes.ensures.value at c.bad_field.ensures.value)
