use Rattle.network.proofs.StationLemmas.{ways-are}
use Rattle.network.proofs.ways.ways_of.Goals as goal

pub returns-clause-ways : goal.returns-clause-ways
returns-clause-ways c =
    ways-are c.args.feed.now c.args.walks.now c.new-ways.result.items c.push_listed.new.ways.items c.push_transfers.new.ways.items c.push_stations.new.ways.items
    c.new-ways.ensures.items c.in_ok-push_listed.ensures.ok c.in_ok-push_transfers.ensures.ok c.in_ok-push_stations.ensures.ok
