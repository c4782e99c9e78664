use Rattle.std.proofs.Common.{◌∙◌, ap, refl}
use Rattle.std.proofs.lemmas.Result.{err_from_is_err_and}
use Rattle.gtfs_rows.specs.Sheets.{sheet_of}
use Rattle.demand.specs.Columns.{zone_columns, zones_file}
use Rattle.demand.specs.Zones.{ids_of, zones_data, zones_faults}
use Rattle.demand.proofs.LawLemmas.{link-law}
use Rattle.demand.proofs.TableLemmas.{same-table, table-none, table-rows-refused, table-sheet-refused}
use Rattle.demand.proofs.zones.Zones.read.Goals as goal

pub returns-in_err-sheet-clause-refused : goal.returns-in_err-sheet-clause-refused
returns-in_err-sheet-clause-refused c =
    let p = err_from_is_err_and c.from_residual-in_err-sheet.result c.from_residual-in_err-sheet.ensures.1 in
    rw (p.1, p.2) (table-sheet-refused zones_file c.args.bytes.now c.in_ok-wanted.wanted zone_columns (zones_faults (ids_of c.args.feed.now.stops) (sheet_of c.args.bytes.now zone_columns).rows) c.in_err-sheet.field-0.0
    c.in_ok-wanted.ensures.value c.in_err-sheet.ensures.refused)

pub returns-in_err-zones-clause-refused : goal.returns-in_err-zones-clause-refused
returns-in_err-zones-clause-refused c =
    let p = err_from_is_err_and c.from_residual-in_err-zones.result c.from_residual-in_err-zones.ensures.1 in
    rw (p.1, p.2) (table-rows-refused zones_file c.args.bytes.now c.in_ok-wanted.wanted zone_columns _ _ c.in_err-zones.field-0.0
    c.in_ok-wanted.ensures.value c.in_ok-sheet.ensures.faultless
    (same-table zones_faults c.in_ok-stops.stops (ids_of c.args.feed.now.stops) c.in_ok-sheet.sheet c.args.bytes.now c.in_ok-wanted.wanted zone_columns
    (c.in_ok-stops.ensures.value ∙ ap ids_of c.stops.ensures.value) c.in_ok-sheet.ensures.sheet c.in_ok-wanted.ensures.value)
    c.in_err-zones.ensures.refused)

pub returns-clause-numbers : goal.returns-clause-numbers
returns-clause-numbers c = link-law c.args.feed.now.stops c.in_ok-stops.stops c.in_ok-sheet.sheet.rows c.in_ok-zones.zones (c.in_ok-stops.ensures.value ∙ ap ids_of c.stops.ensures.value)
    c.in_ok-zones.ensures.zones c.in_ok-zones.ensures.faultless

pub returns-clause-zones : goal.returns-clause-zones
returns-clause-zones c = c.in_ok-zones.ensures.zones
    ∙ same-table zones_data c.in_ok-stops.stops (ids_of c.args.feed.now.stops) c.in_ok-sheet.sheet c.args.bytes.now c.in_ok-wanted.wanted zone_columns
    (c.in_ok-stops.ensures.value ∙ ap ids_of c.stops.ensures.value) c.in_ok-sheet.ensures.sheet c.in_ok-wanted.ensures.value

pub returns-clause-faultless : goal.returns-clause-faultless
returns-clause-faultless c = table-none zones_file c.args.bytes.now c.in_ok-wanted.wanted zone_columns _ _
    c.in_ok-wanted.ensures.value c.in_ok-sheet.ensures.faultless
    (same-table zones_faults c.in_ok-stops.stops (ids_of c.args.feed.now.stops) c.in_ok-sheet.sheet c.args.bytes.now c.in_ok-wanted.wanted zone_columns
    (c.in_ok-stops.ensures.value ∙ ap ids_of c.stops.ensures.value) c.in_ok-sheet.ensures.sheet c.in_ok-wanted.ensures.value)
    c.in_ok-zones.ensures.faultless
