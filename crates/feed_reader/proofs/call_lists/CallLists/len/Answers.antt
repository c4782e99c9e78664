use Rattle.std.proofs.Common.{◌∙◌, sym, ap, length}
use Rattle.feed_reader.proofs.CallListLemmas.{lists-length}
use Rattle.feed_reader.proofs.call_lists.CallLists.len.Goals as goal

pub returns : goal.returns
returns c = rw (← c.self.view_is) (record { value = ap length c.as_slice.ensures.value ∙ sym (lists-length 0 c.self.inside.ends.items c.self.inside.calls.items) })
