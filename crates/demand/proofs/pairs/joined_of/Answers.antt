use Rattle.demand.proofs.SortLemmas.{join-room}
use Rattle.demand.proofs.pairs.joined_of.Goals as goal

pub join-requires : goal.join-requires
join-requires c = record { room = join-room c.args.amounts.now c.loop-amount.pairs.items c.loop-amount.amount-index _ c.loop-amount-test.true c.loop-amount.invariant c.requires.units }
