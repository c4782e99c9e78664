use Rattle.gtfs_rows.proofs.FieldListLemmas.{pushed, pushed-cut}
use Rattle.gtfs_rows.proofs.field_list.FieldList.push.Goals as goal

pub invariant_of-self-in-Ok : goal.invariant_of-self-in-Ok
invariant_of-self-in-Ok c =
    pushed c.self.inside.ends.items _ c.self.inside.bytes.items _ c.args.field.now c.self.invariant c.in_ok-extend_from_slice.ensures.items
    (rw c.as_slice-end.ensures.value at c.in-Ok.ensures.ok)

pub returns-clause-ok : goal.returns-clause-ok
returns-clause-ok c =
    pushed-cut c.self.inside.ends.items _ c.self.inside.bytes.items _ c.args.field.now c.args.self.now c.self.invariant c.self.view_is c.in_ok-extend_from_slice.ensures.items
    (rw c.as_slice-end.ensures.value at c.in-Ok.ensures.ok)
