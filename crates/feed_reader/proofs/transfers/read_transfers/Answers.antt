use Rattle.std.proofs.Common.{◌≡◌, ◌+◌, ◌<◌, ◌∙◌, [], length, ap, arith}
use Rattle.std.proofs.lemmas.Result.{err_from_is_err_and}
use Rattle.feed_reader.specs.Transfers.{transfer_faults, transfer_of, transfers_aside, transfers_of}
use Rattle.feed_reader.proofs.FaultLemmas.{first-of-rows, none-more}
use Rattle.feed_reader.proofs.RowLemmas.{given-all, given-next, given-or-not}
use Rattle.feed_reader.proofs.transfers.read_transfers.Goals as goal

pub returns-in_err-push_transfer-clause-refused : goal.returns-in_err-push_transfer-clause-refused
returns-in_err-push_transfer-clause-refused c =
    let p = err_from_is_err_and c.from_residual.result c.from_residual.ensures.1 in
    let lt : c.loop-row.row < length c.args.sheet.now.rows = omega arith in
    rw (p.1, p.2) (first-of-rows (transfer_faults c.args.stops.now c.args.sheet.now.rows) c.args.sheet.now.rows c.loop-row.row c.in_err-push_transfer.field-0.0 lt c.loop-row.invariant.none c.in_err-push_transfer.ensures.refused)

pub loop-row-preserved : goal.loop-row-preserved
loop-row-preserved c =
    let lt : c.loop-row.row < length c.args.sheet.now.rows = omega arith in
    record {
      list = given-next (transfer_of c.args.stops.now) c.args.sheet.now.rows c.loop-row.row [] _ _ lt c.loop-row.invariant.list c.in_ok-push_transfer.ensures.transfers;
      none = none-more (transfer_faults c.args.stops.now c.args.sheet.now.rows) c.loop-row.row c.loop-row.invariant.none c.in_ok-push_transfer.ensures.faultless;
    }

pub overflow_sub-aside : goal.overflow_sub-aside
overflow_sub-aside c =
    let end : c.loop-row.row ≡ length c.args.sheet.now.rows = omega arith in
    let kept : c.as_slice.result.now ≡ transfers_of c.args.stops.now c.args.sheet.now.rows = c.as_slice.ensures.value ∙ given-all (transfer_of c.args.stops.now) c.args.sheet.now.rows c.loop-row.row _ end c.loop-row.invariant.list in
    omega (arith, given-or-not (transfer_of c.args.stops.now) c.args.sheet.now.rows, ap length kept)

pub returns-clause-aside : goal.returns-clause-aside
returns-clause-aside c =
    let end : c.loop-row.row ≡ length c.args.sheet.now.rows = omega arith in
    let kept : c.as_slice.result.now ≡ transfers_of c.args.stops.now c.args.sheet.now.rows = c.as_slice.ensures.value ∙ given-all (transfer_of c.args.stops.now) c.args.sheet.now.rows c.loop-row.row _ end c.loop-row.invariant.list in
    let sum : length c.as_slice.result.now + transfers_aside c.args.stops.now c.args.sheet.now.rows ≡ length c.args.sheet.now.rows = rw kept (given-or-not (transfer_of c.args.stops.now) c.args.sheet.now.rows) in
    omega arith
