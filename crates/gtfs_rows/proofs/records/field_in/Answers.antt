use Rattle.std.proofs.Common.{◌∙◌}
use Rattle.csv.specs.Records.{fields_of}
use Rattle.gtfs_rows.proofs.FieldLemmas.{picked-some, picked-none}
use Rattle.gtfs_rows.proofs.records.field_in.Goals as goal

pub returns-in-None-get : goal.returns-in-None-get
returns-in-None-get c = rw c.in-Some.is (record { value = picked-none (fields_of c.args.row.now) c.in-Some.i c.in-None-get.ensures.value })

pub returns-in-Some-get : goal.returns-in-Some-get
returns-in-Some-get c = rw c.in-Some.is (record { value = c.trimmed.ensures.value ∙ picked-some (fields_of c.args.row.now) c.in-Some.i c.in-Some-get.field.now c.in-Some-get.ensures.value })
