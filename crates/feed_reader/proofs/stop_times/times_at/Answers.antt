use Rattle.std.specs.Prelude.{codes}
use Rattle.std.proofs.lemmas.Result.{err_from_is_err_and}
use Rattle.feed_reader.specs.Faults.{row_at}
use Rattle.feed_reader.specs.StopTimes.{arrival_field, departure_field, time_faults}
use Rattle.feed_reader.proofs.FaultLemmas.{behind, in-front}
use Rattle.feed_reader.proofs.stop_times.times_at.Goals as goal

pub returns-in_err-arrival-clause-refused : goal.returns-in_err-arrival-clause-refused
returns-in_err-arrival-clause-refused c =
    let p = err_from_is_err_and c.from_residual.result c.from_residual.ensures.1 in
    rw (p.1, p.2) (in-front (time_faults c.args.row (codes "arrival_time") (arrival_field (row_at c.args.sheet.now.rows c.args.row)))
    (time_faults c.args.row (codes "departure_time") (departure_field (row_at c.args.sheet.now.rows c.args.row))) c.in_err-arrival.field-0.0
    (rw c.field.ensures.value at c.in_err-arrival.ensures.refused))

pub returns-in_err-departure-clause-refused : goal.returns-in_err-departure-clause-refused
returns-in_err-departure-clause-refused c =
    let p = err_from_is_err_and c.from_residual-in_err-departure.result c.from_residual-in_err-departure.ensures.1 in
    rw (p.1, p.2) (behind (time_faults c.args.row (codes "arrival_time") (arrival_field (row_at c.args.sheet.now.rows c.args.row)))
    (time_faults c.args.row (codes "departure_time") (departure_field (row_at c.args.sheet.now.rows c.args.row))) c.in_err-departure.field-0.0
    (rw c.field.ensures.value at c.in_ok-arrival.ensures.faultless) (rw c.field-2.ensures.value at c.in_err-departure.ensures.refused))
