use Rattle.std.proofs.Common.{◌<◌, length, arith}
use Rattle.std.proofs.lemmas.Result.{err_from_is_err_and}
use Rattle.demand.specs.Walks.{walk_faults}
use Rattle.demand.proofs.FaultLemmas.{first-of-rows, none-more}
use Rattle.demand.proofs.ReadingLemmas.{walks-more}
use Rattle.demand.proofs.walks.read_rows.Goals as goal

pub returns-in_err-judge_row-clause-refused : goal.returns-in_err-judge_row-clause-refused
returns-in_err-judge_row-clause-refused c =
    let p = err_from_is_err_and c.from_residual.result c.from_residual.ensures.1 in
    let lt : c.loop-row.row < length c.args.sheet.now.rows = omega arith in
    rw (p.1, p.2) (first-of-rows (walk_faults c.args.stops.now c.args.sheet.now.rows) c.args.sheet.now.rows c.loop-row.row c.in_err-judge_row.field-0.0 lt c.loop-row.invariant.none c.in_err-judge_row.ensures.refused)

pub loop-row-preserved : goal.loop-row-preserved
loop-row-preserved c =
    let lt : c.loop-row.row < length c.args.sheet.now.rows = omega arith in
    record {
      walks = walks-more c.args.stops.now c.args.sheet.now.rows c.loop-row.row c.loop-row.walks.items c.push_walk.new.walks.items lt c.loop-row.invariant.walks c.in_ok-push_walk.ensures.ok;
      none = none-more (walk_faults c.args.stops.now c.args.sheet.now.rows) c.loop-row.row c.loop-row.invariant.none c.in_ok-judge_row.ensures.faultless;
    }
