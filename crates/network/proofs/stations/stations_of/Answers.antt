use Rattle.std.proofs.Common.{◌+◌, arith}
use Rattle.network.proofs.StationLemmas.{by-station}
use Rattle.network.proofs.stations.stations_of.Goals as goal

pub returns-clause-stations : goal.returns-clause-stations
returns-clause-stations c =
    rw (c.in_ok-stations.ensures.value, c.deref-2.ensures.value) (by-station c.args.feed.now c.in_ok-keys.keys.items (c.greatest-count.result + 1)
    (rw c.stops.ensures.value at c.in_ok-keys.ensures.keys)
    (λ place d lt. let most = (rw c.deref.ensures.value at c.greatest-count.ensures.most) place d lt in omega (arith, most))
    c.greatest-count.ensures.few)
