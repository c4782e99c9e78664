use Rattle.std.proofs.Common.{◌≡◌, ◌∙◌, ap, List, map}
use Rattle.std.proofs.lemmas.Result.{IfErr-weaker, IfOk-weaker, on_ok_weaker}
use Rattle.gtfs_rows.specs.Faults.{sheet_faults}
use Rattle.gtfs_rows.specs.Sheets.{SheetData}
use Rattle.feed_reader.specs.declared.timetable.Stop.{Stop}
use Rattle.scenarios.specs.Edits.{scenario_columns}
use Rattle.scenarios.specs.Faults.{rows_faults, scenario_file, scenario_rows}
use Rattle.scenarios.specs.Feeds.{route_ids, stop_ids}
use Rattle.scenarios.proofs.ScenarioLemmas.{size-read}
use Rattle.scenarios.proofs.SheetLemmas.{joined-first, joined-none, same-faults}
use Rattle.scenarios.proofs.scenario.Scenario.read.Goals as goal

pub returns-clause-faultless : goal.returns-clause-faultless
returns-clause-faultless c =
    let routes : c.in_ok-routes.routes ≡ route_ids c.args.feed.now = c.in_ok-routes.ensures.value ∙ c.in_ok-route_ids.ensures.value ∙ c.routes.ensures.value in
    let stops : c.in_ok-stops.stops ≡ stop_ids c.args.feed.now = c.in_ok-stops.ensures.value ∙ c.in_ok-stop_ids.ensures.value ∙ ap (λ (all : List Stop). map (λ stop. stop.id) all) c.stops.ensures.value in
    let rows : c.in_ok-sheet.sheet.rows ≡ scenario_rows c.args.bytes.now = ap (λ (s : SheetData). s.rows) c.in_ok-sheet.ensures.sheet in
    let same = same-faults c.in_ok-routes.routes (route_ids c.args.feed.now) c.in_ok-stops.stops (stop_ids c.args.feed.now) c.in_ok-sheet.sheet.rows (scenario_rows c.args.bytes.now) routes stops rows in
    on_ok_weaker c.read_rows.result (λ none. joined-none (sheet_faults scenario_file c.args.bytes.now scenario_columns) (rows_faults c.in_ok-routes.routes c.in_ok-stops.stops c.in_ok-sheet.sheet.rows) _ c.in_ok-sheet.ensures.faultless same none)
    c.read_rows.ensures.faultless

pub returns-clause-refused : goal.returns-clause-refused
returns-clause-refused c =
    let routes : c.in_ok-routes.routes ≡ route_ids c.args.feed.now = c.in_ok-routes.ensures.value ∙ c.in_ok-route_ids.ensures.value ∙ c.routes.ensures.value in
    let stops : c.in_ok-stops.stops ≡ stop_ids c.args.feed.now = c.in_ok-stops.ensures.value ∙ c.in_ok-stop_ids.ensures.value ∙ ap (λ (all : List Stop). map (λ stop. stop.id) all) c.stops.ensures.value in
    let rows : c.in_ok-sheet.sheet.rows ≡ scenario_rows c.args.bytes.now = ap (λ (s : SheetData). s.rows) c.in_ok-sheet.ensures.sheet in
    let same = same-faults c.in_ok-routes.routes (route_ids c.args.feed.now) c.in_ok-stops.stops (stop_ids c.args.feed.now) c.in_ok-sheet.sheet.rows (scenario_rows c.args.bytes.now) routes stops rows in
    IfErr-weaker c.read_rows.result _ _
    (λ e first. joined-first (sheet_faults scenario_file c.args.bytes.now scenario_columns) (rows_faults c.in_ok-routes.routes c.in_ok-stops.stops c.in_ok-sheet.sheet.rows) _ e c.in_ok-sheet.ensures.faultless same first)
    c.read_rows.ensures.refused

pub returns-clause-size : goal.returns-clause-size
returns-clause-size c =
    let routes : c.in_ok-routes.routes ≡ route_ids c.args.feed.now = c.in_ok-routes.ensures.value ∙ c.in_ok-route_ids.ensures.value ∙ c.routes.ensures.value in
    let stops : c.in_ok-stops.stops ≡ stop_ids c.args.feed.now = c.in_ok-stops.ensures.value ∙ c.in_ok-stop_ids.ensures.value ∙ ap (λ (all : List Stop). map (λ stop. stop.id) all) c.stops.ensures.value in
    IfOk-weaker c.read_rows.result _ _ (λ s is. size-read c.args.feed.now s c.in_ok-sheet.sheet.rows (rw (routes, stops) at is)) c.read_rows.ensures.scenario
