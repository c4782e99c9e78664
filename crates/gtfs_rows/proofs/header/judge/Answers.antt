use Rattle.std.proofs.Common.{inr}
use Rattle.gtfs_rows.proofs.FaultLemmas.{double-first, missing-first}
use Rattle.gtfs_rows.proofs.header.judge.Goals as goal

pub returns-then-times-gt1-clause-refused : goal.returns-then-times-gt1-clause-refused
returns-then-times-gt1-clause-refused c =
    inr (double-first c.args.file.now c.args.header.now c.args.column.now c.in_ok-new.field-0
    (rw (c.times-times.ensures.value, c.as_bytes.ensures.value, c.as_str-name.ensures.value) at c.if-times-gt1.true) (rw c.as_str-name.ensures.value at c.in_ok-new.ensures.value))

pub returns-then-times-eq0-clause-refused : goal.returns-then-times-eq0-clause-refused
returns-then-times-eq0-clause-refused c =
    inr (missing-first c.args.file.now c.args.header.now c.args.column.now c.in_ok-new-2.field-0 c.if-column.true
    (rw (c.times-times.ensures.value, c.as_bytes.ensures.value, c.as_str-name.ensures.value) at c.if-times-eq0.true) (rw c.as_str-name.ensures.value at c.in_ok-new-2.ensures.value))
