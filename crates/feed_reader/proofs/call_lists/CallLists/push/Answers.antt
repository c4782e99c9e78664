use Rattle.feed_reader.proofs.CallListLemmas.{pushed-ends, pushed-lists}
use Rattle.feed_reader.proofs.call_lists.CallLists.push.Goals as goal

pub invariant_of-self-else-is_err : goal.invariant_of-self-else-is_err
invariant_of-self-else-is_err c =
    pushed-ends c.self.inside.ends.items _ c.self.inside.calls.items _ c.args.calls.items c.self.invariant (rw c.as_slice.ensures.value at c.in_ok-extend_from_slice.ensures.items)
    (rw (c.if-is_err.ensures.negation, c.as_slice-end.ensures.value) at c.push.ensures.items)

pub returns-clause-ok : goal.returns-clause-ok
returns-clause-ok c =
    pushed-lists c.self.inside.ends.items _ c.self.inside.calls.items _ c.args.calls.items c.args.self.now c.self.invariant c.self.view_is
    (rw c.as_slice.ensures.value at c.in_ok-extend_from_slice.ensures.items)
    (rw (c.if-is_err.ensures.negation, c.as_slice-end.ensures.value) at c.push.ensures.items)
