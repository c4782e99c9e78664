use Rattle.std.proofs.Common.{◌≡◌, Some, None, Err, sym, rules}
use Rattle.gtfs_rows.specs.Fields.{clock_of, date_of, ymd_of}
use Rattle.service_period.specs.declared.bad_period.BadPeriod.TheVariants as bad
use Rattle.service_period.specs.Periods.{window_of}
use Rattle.service_period.proofs.PeriodLemmas.{no-faults, no-window, window-ends}
use Rattle.service_period.proofs.period.Period.new.Goals as goal

pub returns-in_err-from-clause-refused : goal.returns-in_err-from-clause-refused
returns-in_err-from-clause-refused c =
    let found : c.date.result ≡ Some c.in_ok-date.date = c.in_ok-date.ensures.ok_part in
    let dated : Some (ymd_of c.in_ok-date.date) ≡ date_of c.args.date.now = rw (found, c.as_bytes.ensures.value) at c.date.ensures.value in
    let none : None ≡ window_of (clock_of c.args.from.now) (clock_of c.args.to.now) = rw c.in_err-from.ensures.ok_part at c.window.ensures.value in
    let first = no-window c.args.date.now c.args.from.now c.args.to.now (ymd_of c.in_ok-date.date) dated none in
    let is : c.from_residual-in_err-from.result ≡ Err bad.Window = search rules in
    rw is first

pub invariant_of-result : goal.invariant_of-result
invariant_of-result c =
    let made : Some (c.in_ok-from.from, c.in_ok-from.to) ≡ window_of (clock_of c.args.from.now) (clock_of c.args.to.now) = rw c.in_ok-from.ensures.ok_part at c.window.ensures.value in
    window-ends (clock_of c.args.from.now) (clock_of c.args.to.now) (c.in_ok-from.from, c.in_ok-from.to) made

pub returns-clause-period : goal.returns-clause-period
returns-clause-period c =
    let found : c.date.result ≡ Some c.in_ok-date.date = c.in_ok-date.ensures.ok_part in
    let dated : Some (ymd_of c.in_ok-date.date) ≡ date_of c.args.date.now = rw (found, c.as_bytes.ensures.value) at c.date.ensures.value in
    let made : Some (c.in_ok-from.from, c.in_ok-from.to) ≡ window_of (clock_of c.args.from.now) (clock_of c.args.to.now) = rw c.in_ok-from.ensures.ok_part at c.window.ensures.value in
    record { day = sym dated; window = sym made }

pub returns-clause-faultless : goal.returns-clause-faultless
returns-clause-faultless c =
    let found : c.date.result ≡ Some c.in_ok-date.date = c.in_ok-date.ensures.ok_part in
    let dated : Some (ymd_of c.in_ok-date.date) ≡ date_of c.args.date.now = rw (found, c.as_bytes.ensures.value) at c.date.ensures.value in
    let made : Some (c.in_ok-from.from, c.in_ok-from.to) ≡ window_of (clock_of c.args.from.now) (clock_of c.args.to.now) = rw c.in_ok-from.ensures.ok_part at c.window.ensures.value in
    no-faults c.args.date.now c.args.from.now c.args.to.now (ymd_of c.in_ok-date.date) (c.in_ok-from.from, c.in_ok-from.to) dated made
