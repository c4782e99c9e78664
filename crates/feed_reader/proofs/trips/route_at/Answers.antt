use Rattle.std.proofs.Common.{◌≡◌, ◌∙◌, [], Some, map, true, false, refl, sym, ap}
use Rattle.std.specs.Prelude.{is_some}
use Rattle.feed_reader.specs.Faults.{is_empty, row_at}
use Rattle.feed_reader.specs.Ids.{is_known, number_of, stood_before}
use Rattle.feed_reader.specs.Trips.{trip_id, trip_route, trip_service}
use Rattle.feed_reader.proofs.RowLemmas.{stood-known}
use Rattle.feed_reader.proofs.trips.route_at.Goals as goal

pub returns-then-is_some-clause-refused : goal.returns-then-is_some-clause-refused
returns-then-is_some-clause-refused c =
    let number : number_of c.args.routes.now (trip_route (row_at c.args.sheet.now.rows c.args.row)) ≡ Some c.in-Some.number = ap (number_of c.args.routes.now) (sym c.text_at-route.ensures.value) ∙ sym c.find.ensures.value ∙ c.in-Some.is in
    let known : is_known c.args.routes.now (trip_route (row_at c.args.sheet.now.rows c.args.row)) ≡ true = ap is_some number in
    let served : is_empty (trip_service (row_at c.args.sheet.now.rows c.args.row)) ≡ false = cc in
    let some : is_empty (trip_id (row_at c.args.sheet.now.rows c.args.row)) ≡ false = cc in
    let before = stood-known trip_id c.args.sheet.now.rows c.args.row [] c.args.ids.now c.requires.row c.requires.before in
    let stood : stood_before (map trip_id c.args.sheet.now.rows) c.args.row ≡ true = before ∙ ap (is_known c.args.ids.now) (sym c.text_at-id.ensures.value) ∙ ap is_some (sym c.find-2.ensures.value) ∙ sym c.is_some.ensures ∙ c.if-is_some.true in
    rw (known, served, some, stood) (rw c.text_at-id.ensures.value at c.double_id.ensures.value)

pub returns-clause-faultless : goal.returns-clause-faultless
returns-clause-faultless c =
    let number : number_of c.args.routes.now (trip_route (row_at c.args.sheet.now.rows c.args.row)) ≡ Some c.in-Some.number = ap (number_of c.args.routes.now) (sym c.text_at-route.ensures.value) ∙ sym c.find.ensures.value ∙ c.in-Some.is in
    let known : is_known c.args.routes.now (trip_route (row_at c.args.sheet.now.rows c.args.row)) ≡ true = ap is_some number in
    let served : is_empty (trip_service (row_at c.args.sheet.now.rows c.args.row)) ≡ false = cc in
    let some : is_empty (trip_id (row_at c.args.sheet.now.rows c.args.row)) ≡ false = cc in
    let before = stood-known trip_id c.args.sheet.now.rows c.args.row [] c.args.ids.now c.requires.row c.requires.before in
    let new : stood_before (map trip_id c.args.sheet.now.rows) c.args.row ≡ false = before ∙ ap (is_known c.args.ids.now) (sym c.text_at-id.ensures.value) ∙ ap is_some (sym c.find-2.ensures.value) ∙ sym c.is_some.ensures ∙ c.if-is_some.false in
    rw (known, served, some, new) refl
