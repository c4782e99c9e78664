use Rattle.std.proofs.Common.{◌∙◌, sym, ap, length}
use Rattle.csv.proofs.RecordFacts.{cut-length}
use Rattle.gtfs_rows.proofs.field_list.FieldList.len.Goals as goal

pub returns : goal.returns
returns c = rw (← c.self.view_is) (record { value = ap length c.as_slice.ensures.value ∙ sym (cut-length 0 c.self.inside.ends.items c.self.inside.bytes.items) })
