use Rattle.std.proofs.Common.{◌≡◌, ℕ, ◌<◌, ◌^◌, [], arith, subst}
use Rattle.std.specs.Prelude.{flat_map, if◌then◌else◌}
use Rattle.std.specs.List.{range_with_len}
use Rattle.std.proofs.lemmas.Result.{err_from_is_err_and}
use Rattle.feed_reader.specs.Calendars.{day_faults, day_field, is_set}
use Rattle.feed_reader.specs.Faults.{row_at}
use Rattle.feed_reader.proofs.FaultLemmas.{none-more}
use Rattle.feed_reader.proofs.CalendarLemmas.{counts-within, days-fit, days-more, first-day}
use Rattle.feed_reader.proofs.calendars.days_at.Goals as goal

pub returns-in_err-days-clause-refused : goal.returns-in_err-days-clause-refused
returns-in_err-days-clause-refused c =
    let p = err_from_is_err_and c.from_residual.result c.from_residual.ensures.1 in
    let lt : c.loop-day.day < 7 = omega arith in
    rw (p.1, p.2) (first-day (day_faults c.args.row (row_at c.args.sheet.now.rows c.args.row)) c.loop-day.day c.in_err-days.field-0.0 lt c.loop-day.invariant.none c.in_err-days.ensures.refused)

pub loop-day-preserved : goal.loop-day-preserved
loop-day-preserved c =
    let lt : c.loop-day.day < 7 = omega arith in
    let within = counts-within (is_set (day_field (row_at c.args.sheet.now.rows c.args.row) c.loop-day.day)) (2 ^ c.loop-day.day) c.in_ok-days.field-0 c.in_ok-days.ensures.counts in
    record {
      days = days-more (λ (day : ℕ). if is_set (day_field (row_at c.args.sheet.now.rows c.args.row) day) then 2 ^ day else 0) c.loop-day.day c.loop-day.days c.in_ok-days.field-0 c.loop-day.invariant.days
          c.in_ok-days.ensures.counts;
      below = (days-fit c.loop-day.day c.loop-day.days c.in_ok-days.field-0 lt c.loop-day.invariant.below within).0;
      none = none-more (day_faults c.args.row (row_at c.args.sheet.now.rows c.args.row)) c.loop-day.day c.loop-day.invariant.none c.in_ok-days.ensures.faultless;
    }

pub returns-clause-faultless : goal.returns-clause-faultless
returns-clause-faultless c =
    let done : c.loop-day.day ≡ 7 = omega arith in
    subst (λ (n : ℕ). flat_map (day_faults c.args.row (row_at c.args.sheet.now.rows c.args.row)) (range_with_len 0 n) ≡ []) done c.loop-day.invariant.none
