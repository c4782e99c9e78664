use Rattle.gtfs_rows.proofs.CountLemmas.{read-few}
use Rattle.gtfs_rows.proofs.KindLemmas.{bad-field, double-column, missing-column, no-record, not-text, uneven-row}
use Rattle.gtfs_rows.proofs.sheet.Sheet.read.Goals as goal

pub returns-clause-not_utf8 : goal.returns-clause-not_utf8
returns-clause-not_utf8 c = λ p e. not-text c.args.file.now c.args.bytes.now c.args.wanted.now p (rw (c.columns.ensures.value, e) at c.read_bytes.ensures.refused)

pub returns-clause-no_header : goal.returns-clause-no_header
returns-clause-no_header c = λ p e. no-record c.args.file.now c.args.bytes.now c.args.wanted.now p (rw (c.columns.ensures.value, e) at c.read_bytes.ensures.refused)

pub returns-clause-double_column : goal.returns-clause-double_column
returns-clause-double_column c = λ p e. double-column c.args.file.now c.args.bytes.now c.args.wanted.now p (rw (c.columns.ensures.value, e) at c.read_bytes.ensures.refused)

pub returns-clause-missing_column : goal.returns-clause-missing_column
returns-clause-missing_column c = λ p e. missing-column c.args.file.now c.args.bytes.now c.args.wanted.now p (rw (c.columns.ensures.value, e) at c.read_bytes.ensures.refused)

pub returns-clause-row_width : goal.returns-clause-row_width
returns-clause-row_width c = λ p e. uneven-row c.args.file.now c.args.bytes.now c.args.wanted.now p (rw (c.columns.ensures.value, e) at c.read_bytes.ensures.refused)

pub returns-clause-no_bad_field : goal.returns-clause-no_bad_field
returns-clause-no_bad_field c = λ p e. bad-field c.args.file.now c.args.bytes.now c.args.wanted.now p (rw (c.columns.ensures.value, e) at c.read_bytes.ensures.refused)

pub returns-clause-few : goal.returns-clause-few
returns-clause-few c = read-few c.read_bytes.result c.args.bytes.now c.args.wanted.now (rw c.columns.ensures.value at c.read_bytes.ensures.sheet)
