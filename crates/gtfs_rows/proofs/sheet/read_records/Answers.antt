use Rattle.std.proofs.Common.{◌∙◌}
use Rattle.std.proofs.lemmas.Result.{IfErr-weaker, IfOk-weaker, err_from_is_err_and}
use Rattle.csv.specs.Records.{fields_of}
use Rattle.gtfs_rows.specs.Cursor.{left_of}
use Rattle.gtfs_rows.proofs.ReadingLemmas.{left-some}
use Rattle.gtfs_rows.proofs.SheetLemmas.{columns-refused, rows-refused, sheet-shown}
use Rattle.gtfs_rows.proofs.sheet.read_records.Goals as goal

pub returns-in_err-places-clause-refused : goal.returns-in_err-places-clause-refused
returns-in_err-places-clause-refused c =
    let p = err_from_is_err_and c.from_residual-in_err-places.result c.from_residual-in_err-places.ensures.1 in
    let next = left-some c.in_ok-next_record.field-0 (left_of c.args.reader.now) (left_of c.next_record.new.reader) (fields_of c.next_record.new.row) c.if-not-branch.false c.in_ok-next_record.ensures.next in
    rw (p.1, p.2) (columns-refused c.args.file.now c.args.wanted.now (left_of c.args.reader.now) (left_of c.next_record.new.reader) (fields_of c.next_record.new.row) c.in_ok-header.header c.in_err-places.field-0.0
    next c.in_ok-header.ensures.value c.in_err-places.ensures.refused)

pub returns-clause-sheet : goal.returns-clause-sheet
returns-clause-sheet c =
    let next = left-some c.in_ok-next_record.field-0 (left_of c.args.reader.now) (left_of c.next_record.new.reader) (fields_of c.next_record.new.row) c.if-not-branch.false c.in_ok-next_record.ensures.next in
    let shown = sheet-shown c.args.wanted.now (left_of c.args.reader.now) (left_of c.next_record.new.reader) (fields_of c.next_record.new.row) c.in_ok-header.header c.deref.result.now
    next c.in_ok-header.ensures.value (c.deref.ensures.value ∙ c.in_ok-places.ensures.places) in
    IfOk-weaker c.read_rows.result _ _ (λ _ e. e ∙ shown) c.read_rows.ensures.sheet

pub returns-clause-refused : goal.returns-clause-refused
returns-clause-refused c =
    let next = left-some c.in_ok-next_record.field-0 (left_of c.args.reader.now) (left_of c.next_record.new.reader) (fields_of c.next_record.new.row) c.if-not-branch.false c.in_ok-next_record.ensures.next in
    IfErr-weaker c.read_rows.result _ _ (λ e first. rows-refused c.args.file.now c.args.wanted.now (left_of c.args.reader.now) (left_of c.next_record.new.reader) (fields_of c.next_record.new.row) c.in_ok-header.header e
    next c.in_ok-header.ensures.value c.in_ok-places.ensures.faultless first) (rw c.len.ensures.value at c.read_rows.ensures.refused)
