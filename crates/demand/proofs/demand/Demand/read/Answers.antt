use Rattle.std.proofs.Common.{ℕ, List, length, subst}
use Rattle.std.specs.Prelude.{All}
use Rattle.std.proofs.lemmas.Result.{err_from_is_err_and}
use Rattle.gtfs_rows.specs.Sheets.{sheet_of}
use Rattle.demand.specs.Columns.{demand_columns, demand_file}
use Rattle.demand.specs.Demands.{demand_faults}
use Rattle.demand.specs.Laws.{IsPairAmong}
use Rattle.demand.proofs.TableLemmas.{demand-read, same-table, table-rows-refused, table-sheet-refused}
use Rattle.demand.proofs.SortLemmas.{origins-few}
use Rattle.demand.proofs.demand.Demand.read.Goals as goal

pub returns-in_err-sheet-clause-refused : goal.returns-in_err-sheet-clause-refused
returns-in_err-sheet-clause-refused c =
    let p = err_from_is_err_and c.from_residual-in_err-sheet.result c.from_residual-in_err-sheet.ensures.1 in
    rw (p.1, p.2) (table-sheet-refused demand_file c.args.bytes.now c.in_ok-wanted.wanted demand_columns (demand_faults c.args.zones.now.names (sheet_of c.args.bytes.now demand_columns).rows) c.in_err-sheet.field-0.0
    c.in_ok-wanted.ensures.value c.in_err-sheet.ensures.refused)

pub returns-in_err-amounts-clause-refused : goal.returns-in_err-amounts-clause-refused
returns-in_err-amounts-clause-refused c =
    let p = err_from_is_err_and c.from_residual-in_err-amounts.result c.from_residual-in_err-amounts.ensures.1 in
    rw (p.1, p.2) (table-rows-refused demand_file c.args.bytes.now c.in_ok-wanted.wanted demand_columns _ _ c.in_err-amounts.field-0.0
    c.in_ok-wanted.ensures.value c.in_ok-sheet.ensures.faultless
    (same-table demand_faults c.ids.result.now c.args.zones.now.names c.in_ok-sheet.sheet c.args.bytes.now c.in_ok-wanted.wanted demand_columns
    c.ids.ensures.value c.in_ok-sheet.ensures.sheet c.in_ok-wanted.ensures.value)
    c.in_err-amounts.ensures.refused)

pub returns-clause-demand : goal.returns-clause-demand
returns-clause-demand c = demand-read c.args.zones.now.names c.ids.result.now c.in_ok-sheet.sheet c.args.bytes.now c.in_ok-wanted.wanted c.in_ok-demand.demand c.in_ok-amounts.amounts
    c.ids.ensures.value c.in_ok-sheet.ensures.sheet c.in_ok-wanted.ensures.value c.ids.ensures.few c.in_ok-amounts.ensures.amounts c.in_ok-amounts.ensures.sound c.in_ok-demand.ensures.demand

pub returns-clause-numbers : goal.returns-clause-numbers
returns-clause-numbers c = c.in_ok-demand.ensures.among (length c.args.zones.now.names)
    (subst (λ (ids : List (List ℕ)). All (IsPairAmong (length ids)) c.in_ok-amounts.amounts.list.items) c.ids.ensures.value c.in_ok-amounts.ensures.sound.among)

pub of_amounts-requires-clause-origins : goal.of_amounts-requires-clause-origins
of_amounts-requires-clause-origins c = origins-few (length c.ids.result.now) c.in_ok-amounts.amounts.list.items c.ids.ensures.few c.in_ok-amounts.ensures.sound.among
