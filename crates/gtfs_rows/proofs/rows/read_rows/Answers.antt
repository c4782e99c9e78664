use Rattle.std.proofs.Common.{arith, ap, ◌∙◌, sym, length, map, inr, refl}
use Rattle.std.proofs.lemmas.List.{length-map}
use Rattle.csv.specs.Records.{fields_of}
use Rattle.gtfs_rows.specs.Cursor.{left_of}
use Rattle.gtfs_rows.specs.Records.{trimmed}
use Rattle.gtfs_rows.specs.Sheets.{field_in}
use Rattle.gtfs_rows.proofs.ReadingLemmas.{faults-more, faults-uneven, left-some, rows-next}
use Rattle.gtfs_rows.proofs.RowLemmas.{rows-none, shape-push}
use Rattle.gtfs_rows.proofs.TextLemmas.{no-text}
use Rattle.gtfs_rows.proofs.FieldTextLemmas.{text-push, texts-first}
use Rattle.gtfs_rows.proofs.rows.read_rows.Goals as goal

pub loop-fields-init : goal.loop-fields-init
loop-fields-init c = record {
  reading = c.requires.reading;
  faults = refl;
  rows = rw (rows-none (length c.args.places.now) c.new-fields.result) refl;
  whole = let none = ap length c.new-fields.ensures.value in omega (arith, none);
  text = rw c.new-fields.ensures.value no-text;
  texts = c.requires.text;
  few = let few = c.requires.few in omega arith;
}

pub returns-then-len-width-clause-refused : goal.returns-then-len-width-clause-refused
returns-then-len-width-clause-refused c =
    let next = left-some c.in_ok-next_record.field-0 (left_of c.loop-fields.reader) (left_of c.next_record.new.reader) (fields_of c.next_record.new.row) c.if-branch.true c.in_ok-next_record.ensures.next in
    inr (rw c.loop-fields.invariant.faults at (faults-uneven c.args.file.now c.args.width c.loop-fields.count (left_of c.loop-fields.reader) (left_of c.next_record.new.reader) (fields_of c.next_record.new.row)
    c.in_ok-new.field-0 next (λ e. c.if-len-width.true (c.len.ensures ∙ e)) c.in_ok-new.ensures.value))

pub loop-fields-preserved : goal.loop-fields-preserved
loop-fields-preserved c =
    let inv = c.loop-fields.invariant in
    let next = left-some c.in_ok-next_record.field-0 (left_of c.loop-fields.reader) (left_of c.next_record.new.reader) (fields_of c.next_record.new.row) c.if-branch.true c.in_ok-next_record.ensures.next in
    let more = c.in_ok-push_row.ensures.ok in
    let even = sym c.len.ensures ∙ c.if-len-width.false in
    let texts = texts-first (left_of c.loop-fields.reader) (left_of c.next_record.new.reader) (fields_of c.next_record.new.row) next inv.texts in
    record {
      reading = c.in_ok-next_record.ensures.reading c.if-branch.true;
      faults = faults-more c.args.file.now c.args.width c.loop-fields.count (left_of c.loop-fields.reader) (left_of c.next_record.new.reader) (fields_of c.next_record.new.row) next even ∙ inv.faults;
      rows = rows-next c.args.places.now c.loop-fields.count c.loop-fields.fields c.push_row.new.fields (fields_of c.next_record.new.row) (left_of c.loop-fields.reader) (left_of c.next_record.new.reader) _ inv.whole more next inv.rows;
      whole = ap length more ∙ shape-push (length c.args.places.now) c.loop-fields.count c.loop-fields.fields (map (field_in (map trimmed (fields_of c.next_record.new.row))) c.args.places.now) inv.whole
          (length-map c.args.places.now (field_in (map trimmed (fields_of c.next_record.new.row))));
      text = rw more (text-push c.loop-fields.fields c.args.places.now (fields_of c.next_record.new.row) inv.text texts.0);
      texts = texts.1;
      few = let size = ap length next in let few = inv.few in omega arith;
    }

pub of_rows-requires : goal.of_rows-requires
of_rows-requires c = record { shape = record { whole = c.loop-fields.invariant.whole; few = let few = c.loop-fields.invariant.few in omega arith; text = c.loop-fields.invariant.text } }
