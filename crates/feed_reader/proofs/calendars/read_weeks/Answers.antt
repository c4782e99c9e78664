use Rattle.std.proofs.Common.{[], ◌<◌, ◌∙◌, length, arith, refl}
use Rattle.std.proofs.lemmas.Result.{err_from_is_err_and}
use Rattle.feed_reader.specs.Calendars.{week_faults, service_id}
use Rattle.feed_reader.specs.Faults.{row_at}
use Rattle.feed_reader.proofs.FaultLemmas.{first-of-rows, none-more}
use Rattle.feed_reader.proofs.RowLemmas.{listed-more}
use Rattle.feed_reader.proofs.CalendarLemmas.{weeks-more}
use Rattle.feed_reader.proofs.ServiceLemmas.{noted-more, noted-new, noted-none}
use Rattle.feed_reader.proofs.calendars.read_weeks.Goals as goal

pub loop-row-init : goal.loop-row-init
loop-row-init c = record { weeks = rw c.new-weeks.ensures.items tt; services = noted-none c.args.services.now; listed = c.requires.new; none = refl }

pub returns-in_err-week_at-clause-refused : goal.returns-in_err-week_at-clause-refused
returns-in_err-week_at-clause-refused c =
    let p = err_from_is_err_and c.from_residual.result c.from_residual.ensures.1 in
    let lt : c.loop-row.row < length c.args.sheet.now.rows = omega arith in
    rw (p.1, p.2) (first-of-rows (week_faults c.args.sheet.now.rows) c.args.sheet.now.rows c.loop-row.row c.in_err-week_at.field-0.0 lt c.loop-row.invariant.none c.in_err-week_at.ensures.refused)

pub loop-row-preserved : goal.loop-row-preserved
loop-row-preserved c =
    let lt : c.loop-row.row < length c.args.sheet.now.rows = omega arith in
    record {
      weeks = weeks-more c.args.sheet.now.rows c.loop-row.row c.loop-row.services c.week_at.new.services c.loop-row.weeks.items c.push.new.self.items c.in_ok-week_at.field-0 lt c.loop-row.invariant.weeks
          c.in_ok-week_at.ensures.noted c.in_ok-week_at.ensures.week c.in_ok-push.ensures.items;
      services = noted-more service_id c.args.sheet.now.rows c.loop-row.row c.args.services.now c.loop-row.services c.week_at.new.services lt c.loop-row.invariant.services c.in_ok-week_at.ensures.noted;
      listed = listed-more service_id c.args.sheet.now.rows c.loop-row.row [] c.loop-row.services c.week_at.new.services lt c.loop-row.invariant.listed
          (c.in_ok-week_at.ensures.noted ∙ noted-new c.loop-row.services (service_id (row_at c.args.sheet.now.rows c.loop-row.row)) c.in_ok-week_at.ensures.new);
      none = none-more (week_faults c.args.sheet.now.rows) c.loop-row.row c.loop-row.invariant.none c.in_ok-week_at.ensures.faultless;
    }
