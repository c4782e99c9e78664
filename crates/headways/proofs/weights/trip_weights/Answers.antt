use Rattle.std.proofs.Common.{◌≡◌, ◌<◌, ◌^◌, ◌∙◌, ℕ, length, map, ap, sym, arith}
use Rattle.std.specs.List.{range_with_len}
use Rattle.std.proofs.lemmas.List.Elements.{All-push}
use Rattle.headways.specs.TripWeights.{weight_of, weights_of}
use Rattle.headways.proofs.WeightLemmas.{light-is, map-more}
use Rattle.headways.proofs.weights.trip_weights.Goals as goal

pub loop-trip-preserved : goal.loop-trip-preserved
loop-trip-preserved c = record {
  value = c.in_ok-push.ensures.items ∙ rw (c.loop-trip.invariant.value, c.weight_at.ensures.value) (sym (map-more (weight_of c.args.feed.now c.args.period.now) c.loop-trip.trip));
  light = rw c.in_ok-push.ensures.items (All-push (λ weight. weight < 2 ^ 92) c.loop-trip.weights.items c.weight_at.result c.loop-trip.invariant.light c.weight_at.ensures.light);
}

pub returns-clause-light : goal.returns-clause-light
returns-clause-light c =
    let few = c.trips.ensures.few in
    let size : length c.trips.result.now ≡ length c.args.feed.now.trips = ap length c.trips.ensures.value in
    let size2 : length c.trips-2.result.now ≡ length c.args.feed.now.trips = ap length c.trips-2.ensures.value in
    let at : c.loop-trip.trip ≡ length c.args.feed.now.trips = omega arith in
    light-is c.args.feed.now c.args.period.now c.loop-trip.weights.items (c.loop-trip.invariant.value ∙ ap (λ (n : ℕ). map (weight_of c.args.feed.now c.args.period.now) (range_with_len 0 n)) at) (omega arith)
    c.loop-trip.invariant.light
