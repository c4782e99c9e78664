use Rattle.feed_reader.proofs.CallListLemmas.{place-fits}
use Rattle.feed_reader.proofs.call_lists.CallLists.get.Goals as goal

pub list_at-requires : goal.list_at-requires
list_at-requires c = rw (c.as_slice-2.ensures.value, c.as_slice.ensures.value)
    (record { ends = c.self.invariant; place = place-fits c.self.inside.ends.items c.self.inside.calls.items c.args.self.now c.args.trip c.self.view_is c.requires.trip })

pub returns : goal.returns
returns c = record { value = rw (c.as_slice-2.ensures.value, c.as_slice.ensures.value, c.self.view_is) at c.list_at.ensures.value }
