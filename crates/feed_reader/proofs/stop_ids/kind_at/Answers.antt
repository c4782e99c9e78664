use Rattle.std.proofs.Common.{◌≡◌, ◌∙◌, [], map, true, false, refl, sym, ap}
use Rattle.std.specs.Prelude.{is_none}
use Rattle.feed_reader.specs.Faults.{is_empty, row_at, whole_or}
use Rattle.feed_reader.specs.Ids.{stood_before}
use Rattle.feed_reader.specs.Stops.{stop_id, type_field}
use Rattle.feed_reader.proofs.RowLemmas.{stood-known}
use Rattle.feed_reader.proofs.stop_ids.kind_at.Goals as goal

pub returns-then-is_some-clause-refused : goal.returns-then-is_some-clause-refused
returns-then-is_some-clause-refused c =
    let some : is_empty (stop_id (row_at c.args.sheet.now.rows c.args.row)) ≡ false = cc in
    let known = stood-known stop_id c.args.sheet.now.rows c.args.row [] c.args.ids.now c.requires.row c.requires.before in
    let stood : stood_before (map stop_id c.args.sheet.now.rows) c.args.row ≡ true = cc in
    rw (some, stood) (rw c.text_at-id.ensures.value at c.double_id.ensures.value)

pub returns-in-Some-clause-faultless : goal.returns-in-Some-clause-faultless
returns-in-Some-clause-faultless c =
    let some : is_empty (stop_id (row_at c.args.sheet.now.rows c.args.row)) ≡ false = cc in
    let known = stood-known stop_id c.args.sheet.now.rows c.args.row [] c.args.ids.now c.requires.row c.requires.before in
    let new : stood_before (map stop_id c.args.sheet.now.rows) c.args.row ≡ false = cc in
    let whole : whole_or 0 (type_field (row_at c.args.sheet.now.rows c.args.row)) ≡ c.whole_or.result = rw (← c.field-field.ensures.value) (sym c.whole_or.ensures.value) in
    let typed = ap is_none (whole ∙ c.in-Some.is) in
    rw (some, new, typed) refl

pub returns-in-None-clause-refused : goal.returns-in-None-clause-refused
returns-in-None-clause-refused c =
    let some : is_empty (stop_id (row_at c.args.sheet.now.rows c.args.row)) ≡ false = cc in
    let known = stood-known stop_id c.args.sheet.now.rows c.args.row [] c.args.ids.now c.requires.row c.requires.before in
    let new : stood_before (map stop_id c.args.sheet.now.rows) c.args.row ≡ false = cc in
    let whole : whole_or 0 (type_field (row_at c.args.sheet.now.rows c.args.row)) ≡ c.whole_or.result = rw (← c.field-field.ensures.value) (sym c.whole_or.ensures.value) in
    let typed = ap is_none (whole ∙ c.in-None.is) in
    rw (some, new, typed) (rw c.field-field.ensures.value at c.bad_field-in-None.ensures.value)
