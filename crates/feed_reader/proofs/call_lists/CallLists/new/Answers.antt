use Rattle.std.proofs.Common.{[]}
use Rattle.feed_reader.proofs.CallListLemmas.{ends-none, lists-none}
use Rattle.feed_reader.proofs.call_lists.CallLists.new.Goals as goal

pub invariant_of-result : goal.invariant_of-result
invariant_of-result c = rw (c.new.ensures.items, c.new-2.ensures.items) ends-none

pub returns : goal.returns
returns c = rw (c.new.ensures.items, c.new-2.ensures.items) (record { value = lists-none [] })
