use Rattle.std.proofs.Common.{refl}
use Rattle.csv.specs.Records.{cut_from}
use Rattle.gtfs_rows.proofs.FieldListLemmas.{flat-nil}
use Rattle.gtfs_rows.proofs.field_list.FieldList.new.Goals as goal

pub invariant_of-result : goal.invariant_of-result
invariant_of-result c = rw (c.new.ensures.items, c.new-2.ensures.items) flat-nil

pub returns : goal.returns
unfolding cut_from
returns c = rw (c.new.ensures.items, c.new-2.ensures.items) (record { value = refl })
