use Rattle.network.proofs.StationLemmas.{stations-more}
use Rattle.network.proofs.ways.push_stations.Goals as goal

pub loop-stop-preserved : goal.loop-stop-preserved
loop-stop-preserved c =
    stations-more c.args.feed.now c.args.ways.now.items c.loop-stop.ways.items c.push_to.new.ways.items c.loop-stop.stop c.neighbours-tos.result.now
    c.loop-stop.invariant c.neighbours-tos.ensures.value c.in_ok-push_to.ensures.ok
