use Rattle.std.proofs.Common.{[], ◌<◌, length, arith}
use Rattle.std.proofs.lemmas.Result.{err_from_is_err_and}
use Rattle.feed_reader.specs.Routes.{route_faults, route_id}
use Rattle.feed_reader.proofs.FaultLemmas.{first-of-rows, none-more}
use Rattle.feed_reader.proofs.RowLemmas.{listed-more}
use Rattle.feed_reader.proofs.routes.read_routes.Goals as goal

pub returns-in_err-note_route-clause-refused : goal.returns-in_err-note_route-clause-refused
returns-in_err-note_route-clause-refused c =
    let p = err_from_is_err_and c.from_residual.result c.from_residual.ensures.1 in
    let lt : c.loop-row.row < length c.args.sheet.now.rows = omega arith in
    rw (p.1, p.2) (first-of-rows (route_faults c.args.sheet.now.rows) c.args.sheet.now.rows c.loop-row.row c.in_err-note_route.field-0.0 lt c.loop-row.invariant.none c.in_err-note_route.ensures.refused)

pub loop-row-preserved : goal.loop-row-preserved
loop-row-preserved c =
    let lt : c.loop-row.row < length c.args.sheet.now.rows = omega arith in
    record {
      ids = listed-more route_id c.args.sheet.now.rows c.loop-row.row [] _ _ lt c.loop-row.invariant.ids c.in_ok-note_route.ensures.noted;
      none = none-more (route_faults c.args.sheet.now.rows) c.loop-row.row c.loop-row.invariant.none c.in_ok-note_route.ensures.faultless;
    }
