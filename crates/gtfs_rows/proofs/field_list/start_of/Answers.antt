use Rattle.std.proofs.Common.{refl}
use Rattle.gtfs_rows.proofs.FieldListLemmas.{start-first, start-later}
use Rattle.gtfs_rows.proofs.field_list.start_of.Goals as goal

pub returns-then-place-eq0 : goal.returns-then-place-eq0
returns-then-place-eq0 c = record { value = start-first c.args.ends.now c.args.place 0 c.if-place-eq0.true refl }

pub returns-else-place-eq0 : goal.returns-else-place-eq0
returns-else-place-eq0 c = record { value = start-later c.args.ends.now c.args.place _ c.if-place-eq0.false c.requires.place refl }
