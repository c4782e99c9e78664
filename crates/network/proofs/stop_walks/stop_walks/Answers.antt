use Rattle.network.proofs.WayLemmas.{are-ordered, stop-walks}
use Rattle.network.proofs.stop_walks.stop_walks.Goals as goal

pub walks_by-requires-clause-ordered : goal.walks_by-requires-clause-ordered
walks_by-requires-clause-ordered c = are-ordered c.args.feed.now c.args.walks.now c.stops.result.now c.in_ok-ways.ways.items c.order.new.ways.items c.deref.result.now
    c.stops.ensures.value c.requires.walks (rw c.list.ensures.value at c.in_ok-ways.ensures.ways) c.in_ok-order.ensures.ok c.deref.ensures.value

pub returns-clause-walks : goal.returns-clause-walks
returns-clause-walks c = stop-walks c.args.feed.now c.args.walks.now c.stops.result.now c.in_ok-ways.ways.items c.order.new.ways.items c.deref.result.now c.in_ok-found.found
    c.stops.ensures.value c.requires.walks (rw c.list.ensures.value at c.in_ok-ways.ensures.ways) c.in_ok-order.ensures.ok c.deref.ensures.value c.in_ok-found.ensures.walks
