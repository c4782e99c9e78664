use Rattle.std.proofs.Common.{arith, refl}
use Rattle.gtfs_rows.proofs.FieldListLemmas.{bounds-at, part-at}
use Rattle.gtfs_rows.proofs.field_list.part.Goals as goal

pub slice_bounds-result-count : goal.slice_bounds-result-count
slice_bounds-result-count c = (bounds-at c.args.ends.now c.args.bytes.now c.args.place _ _ c.requires.flat c.requires.place c.start_of-start.ensures.value refl).0

pub slice_bounds-result-start : goal.slice_bounds-result-start
slice_bounds-result-start c = let b = bounds-at c.args.ends.now c.args.bytes.now c.args.place _ _ c.requires.flat c.requires.place c.start_of-start.ensures.value refl in omega (arith, b)

pub slice_bounds-result-end : goal.slice_bounds-result-end
slice_bounds-result-end c = let b = bounds-at c.args.ends.now c.args.bytes.now c.args.place _ _ c.requires.flat c.requires.place c.start_of-start.ensures.value refl in omega (arith, b)

pub returns : goal.returns
returns c = record { value = part-at c.args.ends.now c.args.bytes.now _ c.args.place _ _ refl c.requires.place c.start_of-start.ensures.value refl }
