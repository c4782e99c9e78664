use Rattle.std.proofs.Common.{◌≡◌, [], map, true, false, refl}
use Rattle.feed_reader.specs.Faults.{is_empty, row_at}
use Rattle.feed_reader.specs.Ids.{stood_before}
use Rattle.feed_reader.specs.Routes.{route_id}
use Rattle.feed_reader.proofs.RowLemmas.{stood-known}
use Rattle.feed_reader.proofs.routes.new_route.Goals as goal

pub returns-then-is_some-clause-refused : goal.returns-then-is_some-clause-refused
returns-then-is_some-clause-refused c =
    let some : is_empty (route_id (row_at c.args.sheet.now.rows c.args.row)) ≡ false = cc in
    let known = stood-known route_id c.args.sheet.now.rows c.args.row [] c.args.ids.now c.requires.row c.requires.before in
    let stood : stood_before (map route_id c.args.sheet.now.rows) c.args.row ≡ true = cc in
    rw (some, stood) (rw c.text_at-id.ensures.value at c.double_id.ensures.value)

pub returns-clause-faultless : goal.returns-clause-faultless
returns-clause-faultless c =
    let some : is_empty (route_id (row_at c.args.sheet.now.rows c.args.row)) ≡ false = cc in
    let known = stood-known route_id c.args.sheet.now.rows c.args.row [] c.args.ids.now c.requires.row c.requires.before in
    let new : stood_before (map route_id c.args.sheet.now.rows) c.args.row ≡ false = cc in
    rw (some, new) refl
