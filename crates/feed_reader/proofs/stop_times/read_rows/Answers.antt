use Rattle.std.proofs.Common.{◌<◌, length, map, sym, arith}
use Rattle.std.proofs.lemmas.Result.{err_from_is_err_and}
use Rattle.feed_reader.specs.CallRows.{trip_call}
use Rattle.feed_reader.specs.Stops.{stop_id, stop_ids}
use Rattle.feed_reader.specs.StopTimes.{call_faults}
use Rattle.feed_reader.proofs.CallRowLemmas.{calls-next}
use Rattle.feed_reader.proofs.FaultLemmas.{first-of-rows, none-more}
use Rattle.feed_reader.proofs.stop_times.read_rows.Goals as goal

pub returns-in_err-call-clause-refused : goal.returns-in_err-call-clause-refused
returns-in_err-call-clause-refused c =
    let p = err_from_is_err_and c.from_residual-in_err-call.result c.from_residual-in_err-call.ensures.1 in
    let lt : c.loop-row.row < length c.args.sheet.now.rows = omega arith in
    rw (p.1, p.2) (first-of-rows (call_faults c.args.trips.now (map stop_id c.args.stops.now) c.args.sheet.now.rows) c.args.sheet.now.rows c.loop-row.row c.in_err-call.field-0.0 lt c.loop-row.invariant.2 c.in_err-call.ensures.refused)

pub loop-row-preserved : goal.loop-row-preserved
loop-row-preserved c =
    let lt : c.loop-row.row < length c.args.sheet.now.rows = omega arith in (
      c.text_at-last.utf8,
      calls-next (trip_call c.args.trips.now (stop_ids c.args.stops.now)) c.args.sheet.now.rows c.loop-row.row c.loop-row.calls _ c.in_ok-call.call lt c.loop-row.invariant.1 c.in_ok-call.ensures.call c.in_ok-push.ensures.ok,
      none-more (call_faults c.args.trips.now (map stop_id c.args.stops.now) c.args.sheet.now.rows) c.loop-row.row c.loop-row.invariant.2 c.in_ok-call.ensures.faultless,
      rw c.text_at-last.ensures.value (sym c.in_ok-call.ensures.trip),
    )
