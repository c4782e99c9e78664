use Rattle.std.proofs.Common.{◌<◌, length, arith}
use Rattle.std.proofs.lemmas.Result.{err_from_is_err_and}
use Rattle.demand.proofs.ReadingLemmas.{zone-field-refused, zone-limit-refused, zone-none, zones-noted}
use Rattle.demand.proofs.zones.zone_ids.Goals as goal

pub returns-in_err-judge_row-clause-refused : goal.returns-in_err-judge_row-clause-refused
returns-in_err-judge_row-clause-refused c =
    let p = err_from_is_err_and c.from_residual.result c.from_residual.ensures.1 in
    let lt : c.loop-row.row < length c.args.sheet.now.rows = omega arith in
    rw (p.1, p.2) (zone-field-refused c.args.stops.now c.args.sheet.now.rows c.loop-row.row c.in_err-judge_row.field-0.0 lt c.loop-row.invariant.none c.in_err-judge_row.ensures.refused)

pub returns-in_err-note_zone-clause-refused : goal.returns-in_err-note_zone-clause-refused
returns-in_err-note_zone-clause-refused c =
    let p = err_from_is_err_and c.from_residual-in_err-note_zone.result c.from_residual-in_err-note_zone.ensures.1 in
    let lt : c.loop-row.row < length c.args.sheet.now.rows = omega arith in
    rw (p.1, p.2) (zone-limit-refused c.args.stops.now c.args.sheet.now.rows c.loop-row.row c.loop-row.zones c.in_err-note_zone.field-0.0 lt c.loop-row.invariant.none c.loop-row.invariant.ids
    c.in_ok-judge_row.ensures.faultless c.in_err-note_zone.ensures.refused)

pub loop-row-preserved : goal.loop-row-preserved
loop-row-preserved c =
    let lt : c.loop-row.row < length c.args.sheet.now.rows = omega arith in
    record {
      ids = zones-noted c.args.sheet.now.rows c.loop-row.row c.loop-row.zones c.note_zone.new.zones lt c.loop-row.invariant.ids c.in_ok-note_zone.ensures.ok;
      few = c.in_ok-note_zone.ensures.few;
      none = zone-none c.args.stops.now c.args.sheet.now.rows c.loop-row.row c.loop-row.zones lt c.loop-row.invariant.none c.loop-row.invariant.ids c.in_ok-judge_row.ensures.faultless c.in_ok-note_zone.ensures.faultless;
    }
