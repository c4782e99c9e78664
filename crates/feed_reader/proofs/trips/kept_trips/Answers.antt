use Rattle.std.proofs.Common.{◌∙◌, length, arith}
use Rattle.std.proofs.lemmas.Iterator.Adapters.{YieldsList-from_vec}
use Rattle.std.proofs.lemmas.Iterator.Consumers.{YieldsList-turn}
use Rattle.std.proofs.lemmas.List.{length_push}
use Rattle.feed_reader.proofs.TripLemmas.{kept-step}
use Rattle.feed_reader.proofs.trips.kept_trips.Goals as goal

pub loop-trip-preserved : goal.loop-trip-preserved
loop-trip-preserved c =
    let given = YieldsList-from_vec {s = c.into_iter-trip-iterator.result} c.args.trips.items c.into_iter-trip-iterator.ensures.into_iter_gives.0 (c.into_iter-trip-iterator.ensures.into_iter_gives.1 ∙ c.args.trips.ok.0) in
    let turn = YieldsList-turn given c.loop-trip.yielded c.loop-trip.trip-iterator c.loop-trip.yielded_by c.next.result c.next.new.self c.in-Some.trip c.in-Some.is c.next.ensures.steps in
    let next = length_push c.loop-trip.yielded c.in-Some.trip in
    record {
      number = omega (arith, c.loop-trip.invariant.number, next);
      left = kept-step c.args.trips.items c.args.kept.now (length c.loop-trip.yielded) c.loop-trip.number _ c.in-Some.trip c.loop-trip.left.items c.push_kept.new.left.items turn.0 c.requires.one_each
          c.loop-trip.invariant.number next turn.1 c.loop-trip.invariant.left c.in_ok-push_kept.ensures.value;
    }
