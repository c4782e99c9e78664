use Rattle.std.proofs.Common.{refl, ◌-◌, take, drop}
use Rattle.network.proofs.WalkLemmas.{so_far-more}
use Rattle.network.proofs.stop_walks.walks_by.Goals as goal

pub loop-stop-preserved : goal.loop-stop-preserved
loop-stop-preserved c =
    so_far-more c.args.stops c.loop-stop.stop c.loop-stop.start c.end_of-end.result c.args.ways.now (take (c.end_of-end.result - c.loop-stop.start) (drop c.loop-stop.start c.args.ways.now))
    c.loop-stop.firsts.items c.push-in-loop-stop.new.self.items c.loop-stop.list.items c.push_walks.new.list.items
    c.loop-stop.invariant c.loop-stop-test.true c.end_of-end.ensures.value c.end_of-end.ensures.within refl c.in_ok-push_walks.ensures.ok
    (rw c.as_slice.ensures.value at c.in_ok-push-2.ensures.items)
