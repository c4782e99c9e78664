use Rattle.gtfs_rows.proofs.FieldListLemmas.{index-fits}
use Rattle.gtfs_rows.proofs.field_list.FieldList.get.Goals as goal

pub part-requires : goal.part-requires
part-requires c = rw (c.as_slice-2.ensures.value, c.as_slice.ensures.value)
    (record { flat = c.self.invariant; place = index-fits c.self.inside.ends.items c.self.inside.bytes.items c.args.self.now c.args.place c.self.view_is c.requires.place })

pub returns : goal.returns
returns c = record { value = rw (c.as_slice-2.ensures.value, c.as_slice.ensures.value, c.self.view_is) at c.part.ensures.value }
