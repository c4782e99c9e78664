use Rattle.std.specs.Prelude.{option_map}
use Rattle.gtfs_rows.specs.Fields.{ymd_of}
use Rattle.gtfs_rows.proofs.DateLemmas.{date-is}
use Rattle.gtfs_rows.proofs.dates.date.Goals as goal

pub returns : goal.returns
returns c = record {
  value = date-is c.args.field.now c.in_ok-year.year c.in_ok-month.month c.in_ok-day.day (option_map ymd_of c.civil.result)
      c.if-field-ne8.false c.in_ok-year.ensures.value c.in_ok-month.ensures.value c.in_ok-day.ensures.value c.civil.ensures.value;
}
