use Rattle.std.proofs.Common.{◌≤◌, arith, inl, inr}
use Rattle.std.specs.Prelude.{codes, nat_lt}
use Rattle.feed_reader.specs.declared.fault.FeedFault.TheVariants as fault
use Rattle.feed_reader.specs.Columns.{frequencies_file}
use Rattle.feed_reader.specs.Faults.{place_in, row_at}
use Rattle.feed_reader.specs.Frequencies.{begin_of, end_field, end_of, headway_field, headway_of}
use Rattle.feed_reader.proofs.BandLemmas.{value-first, value-none, value-second}
use Rattle.feed_reader.proofs.band_fields.headway_within.Goals.{then-fields-eq0-via-then-fields-eq0, then-fields-eq0-via-else-fields-eq0+then-fields-gt1000000}
use Rattle.feed_reader.proofs.band_fields.headway_within.Goals as goal

pub returns-then-fields-eq0-clause-refused : goal.returns-then-fields-eq0-clause-refused
returns-then-fields-eq0-clause-refused c =
    let found = rw c.field.ensures.value at c.bad_headway.ensures.value in
    elim c.then-fields-eq0.branch [
      | then-fields-eq0-via-then-fields-eq0 w ↦ value-first (headway_of (row_at c.args.sheet.now.rows c.args.row)) c.args.fields.headway
          (fault.BadHeadway (place_in frequencies_file c.args.row (codes "headway_secs") (headway_field (row_at c.args.sheet.now.rows c.args.row))))
          (fault.BadHeadway (place_in frequencies_file c.args.row (codes "end_time") (end_field (row_at c.args.sheet.now.rows c.args.row))))
          (nat_lt (end_of (row_at c.args.sheet.now.rows c.args.row)) (begin_of (row_at c.args.sheet.now.rows c.args.row))) c.bad_headway.result c.requires.headway (inl w.if-fields-eq0.true) found
      | then-fields-eq0-via-else-fields-eq0+then-fields-gt1000000 w ↦ value-first (headway_of (row_at c.args.sheet.now.rows c.args.row)) c.args.fields.headway
          (fault.BadHeadway (place_in frequencies_file c.args.row (codes "headway_secs") (headway_field (row_at c.args.sheet.now.rows c.args.row))))
          (fault.BadHeadway (place_in frequencies_file c.args.row (codes "end_time") (end_field (row_at c.args.sheet.now.rows c.args.row))))
          (nat_lt (end_of (row_at c.args.sheet.now.rows c.args.row)) (begin_of (row_at c.args.sheet.now.rows c.args.row))) c.bad_headway.result c.requires.headway (inr w.if-fields-gt1000000.true) found
    ]

pub returns-then-fields-clause-refused : goal.returns-then-fields-clause-refused
returns-then-fields-clause-refused c =
    let found = rw c.field-then-fields.ensures.value at c.bad_headway-then-fields.ensures.value in
    let some : 1 ≤ c.args.fields.headway = omega arith in
    value-second (headway_of (row_at c.args.sheet.now.rows c.args.row)) c.args.fields.headway (end_of (row_at c.args.sheet.now.rows c.args.row)) (begin_of (row_at c.args.sheet.now.rows c.args.row)) c.args.fields.ends c.args.fields.begins
    (fault.BadHeadway (place_in frequencies_file c.args.row (codes "headway_secs") (headway_field (row_at c.args.sheet.now.rows c.args.row))))
    (fault.BadHeadway (place_in frequencies_file c.args.row (codes "end_time") (end_field (row_at c.args.sheet.now.rows c.args.row))))
    c.bad_headway-then-fields.result c.requires.headway some c.if-fields-gt1000000.false c.requires.ends c.requires.begins c.if-fields.true found

pub returns-clause-faultless : goal.returns-clause-faultless
returns-clause-faultless c =
    let some : 1 ≤ c.args.fields.headway = omega arith in
    value-none (headway_of (row_at c.args.sheet.now.rows c.args.row)) c.args.fields.headway (end_of (row_at c.args.sheet.now.rows c.args.row)) (begin_of (row_at c.args.sheet.now.rows c.args.row)) c.args.fields.ends c.args.fields.begins
    (fault.BadHeadway (place_in frequencies_file c.args.row (codes "headway_secs") (headway_field (row_at c.args.sheet.now.rows c.args.row))))
    (fault.BadHeadway (place_in frequencies_file c.args.row (codes "end_time") (end_field (row_at c.args.sheet.now.rows c.args.row))))
    c.requires.headway some c.if-fields-gt1000000.false c.requires.ends c.requires.begins c.if-fields.false
