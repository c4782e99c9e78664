use Rattle.std.proofs.Common.{◌+◌, arith, drop, get_or}
use Rattle.std.proofs.lemmas.List.{drop_more}
use Rattle.std.proofs.Math.ListN.{drop_of_length-le}
use Rattle.network.proofs.AlongLemmas.{after-more, after-none}
use Rattle.network.proofs.stop_walks.push_walks.Goals as goal

pub loop-place-preserved : goal.loop-place-preserved
loop-place-preserved c =
    after-more c.loop-place.held (get_or c.args.ways.now c.loop-place.place _) c.in_ok-held.held (drop c.loop-place.place c.args.ways.now) (drop (c.loop-place.place + 1) c.args.ways.now)
    c.loop-place.list.items c.next_way.new.list.items _ (drop_more c.args.ways.now c.loop-place.place _ c.loop-place-test.true) c.loop-place.invariant c.in_ok-held.ensures.value c.in_ok-held.ensures.ok

pub returns : goal.returns
returns c = record {
  ok = after-none c.loop-place.held (drop c.loop-place.place c.args.ways.now) c.loop-place.list.items c.push_walk.new.list.items _
      (drop_of_length-le c.args.ways.now (omega arith)) c.loop-place.invariant c.in_ok-push_walk.ensures.ok;
}
