use Rattle.std.proofs.Common.{◌<◌, length, arith, refl}
use Rattle.std.proofs.lemmas.Result.{err_from_is_err_and}
use Rattle.feed_reader.specs.Calendars.{exception_faults, service_id}
use Rattle.feed_reader.proofs.FaultLemmas.{first-of-rows, none-more}
use Rattle.feed_reader.proofs.CalendarLemmas.{exceptions-more}
use Rattle.feed_reader.proofs.ServiceLemmas.{noted-more, noted-none}
use Rattle.feed_reader.proofs.exceptions.read_exceptions.Goals as goal

pub loop-row-init : goal.loop-row-init
loop-row-init c = record { exceptions = rw c.new-exceptions.ensures.items tt; services = noted-none c.args.services.now; none = refl }

pub returns-in_err-exception_at-clause-refused : goal.returns-in_err-exception_at-clause-refused
returns-in_err-exception_at-clause-refused c =
    let p = err_from_is_err_and c.from_residual.result c.from_residual.ensures.1 in
    let lt : c.loop-row.row < length c.args.sheet.now.rows = omega arith in
    rw (p.1, p.2) (first-of-rows (exception_faults c.args.sheet.now.rows) c.args.sheet.now.rows c.loop-row.row c.in_err-exception_at.field-0.0 lt c.loop-row.invariant.none c.in_err-exception_at.ensures.refused)

pub loop-row-preserved : goal.loop-row-preserved
loop-row-preserved c =
    let lt : c.loop-row.row < length c.args.sheet.now.rows = omega arith in
    record {
      exceptions = exceptions-more c.args.sheet.now.rows c.loop-row.row c.loop-row.services c.exception_at.new.services c.loop-row.exceptions.items c.push.new.self.items c.in_ok-exception_at.field-0 lt c.loop-row.invariant.exceptions
          c.in_ok-exception_at.ensures.noted c.in_ok-exception_at.ensures.exception c.in_ok-push.ensures.items;
      services = noted-more service_id c.args.sheet.now.rows c.loop-row.row c.args.services.now c.loop-row.services c.exception_at.new.services lt c.loop-row.invariant.services c.in_ok-exception_at.ensures.noted;
      none = none-more (exception_faults c.args.sheet.now.rows) c.loop-row.row c.loop-row.invariant.none c.in_ok-exception_at.ensures.faultless;
    }
