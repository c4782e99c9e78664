use Rattle.std.proofs.Common.{◌<◌, ◌∙◌, ap, sym, length, arith}
use Rattle.std.proofs.lemmas.Result.{err_from_is_err_and}
use Rattle.feed_reader.specs.Ids.{number_of}
use Rattle.demand.proofs.AmountLemmas.{amounts-more, sound-more}
use Rattle.demand.proofs.ReadingLemmas.{demand-none, demand-refused}
use Rattle.demand.proofs.amounts.read_amounts.Goals as goal

pub returns-in_err-read_row-clause-refused : goal.returns-in_err-read_row-clause-refused
returns-in_err-read_row-clause-refused c =
    let p = err_from_is_err_and c.from_residual.result c.from_residual.ensures.1 in
    let lt : c.loop-row.row < length c.args.sheet.now.rows = omega arith in
    rw (p.1, p.2) (demand-refused c.args.zones.now c.args.sheet.now.rows c.loop-row.row c.loop-row.amounts.units c.in_err-read_row.field-0.0 lt c.loop-row.invariant.none c.loop-row.invariant.amounts.units
    c.in_err-read_row.ensures.refused)

pub loop-row-preserved : goal.loop-row-preserved
loop-row-preserved c =
    let lt : c.loop-row.row < length c.args.sheet.now.rows = omega arith in
    let ok = c.in_ok-read_row.ensures in
    record {
      amounts = amounts-more c.args.zones.now c.args.sheet.now.rows c.loop-row.row c.loop-row.amounts c.read_row.new.amounts lt ok.faultless c.loop-row.invariant.amounts ok.ok;
      sound = sound-more c.args.zones.now c.args.sheet.now.rows c.loop-row.row c.loop-row.amounts c.read_row.new.amounts lt ok.faultless c.loop-row.invariant.sound ok.ok ok.room ok.small;
      none = demand-none c.args.zones.now c.args.sheet.now.rows c.loop-row.row c.loop-row.amounts.units lt c.loop-row.invariant.none c.loop-row.invariant.amounts.units ok.faultless ok.within;
      origin = c.number_again-origin.ensures.value ∙ ap (number_of c.args.zones.now) (sym c.as_bytes-last.ensures.value);
    }
