use Rattle.std.proofs.Common.{◌≡◌, ◌<◌, ◌∙◌, None, false, length, get_or, ap, arith}
use Rattle.std.proofs.lemmas.List.FromFn.{get_or-map-range_with_len, length-map-range_with_len}
use Rattle.headways.specs.TripWeights.{bands_of, is_on, weight_of_bands}
use Rattle.headways.proofs.WeightLemmas.{weight-is}
use Rattle.headways.proofs.weights.weight_at.Goals as goal

pub bounds-running-service : goal.bounds-running-service
bounds-running-service c =
    let size : length c.args.running.now ≡ length c.args.feed.now.services = ap length c.requires.running ∙ length-map-range_with_len (is_on c.args.feed.now c.args.period.now) 0 (length c.args.feed.now.services) in
    let trips : length c.trips.result.now ≡ length c.args.feed.now.trips = ap length c.trips.ensures.value in
    let trip = c.trips.ensures.numbers c.args.trip c.index-trips-trip.result (omega arith) in
    let service = trip.service in
    omega arith

pub bounds-bands-trip : goal.bounds-bands-trip
bounds-bands-trip c =
    let size : length c.args.bands.now ≡ length c.args.feed.now.trips =
    ap length c.requires.bands ∙ length-map-range_with_len (λ one. weight_of_bands c.args.period.now (bands_of c.args.feed.now.bands one)) 0 (length c.args.feed.now.trips) in
    omega arith

pub returns-clause-value : goal.returns-clause-value
returns-clause-value c =
    let trips : length c.trips.result.now ≡ length c.args.feed.now.trips = ap length c.trips.ensures.value in
    let trip = c.trips.ensures.numbers c.args.trip c.index-trips-trip.result (omega arith) in
    let service = get_or c.args.feed.now.trips c.args.trip c.index-trips-trip.result in
    let within : service.service < length c.args.feed.now.services = rw c.trips.ensures.value at trip.service in
    let runs : get_or c.args.running.now (get_or c.trips.result.now c.args.trip c.index-trips-trip.result).service false ≡ is_on c.args.feed.now c.args.period.now service.service =
    rw (c.requires.running, c.trips.ensures.value)
    (get_or-map-range_with_len (is_on c.args.feed.now c.args.period.now) 0 (length c.args.feed.now.services) service.service service.service false within (omega arith)) in
    let weigh : get_or c.args.bands.now c.args.trip None ≡ weight_of_bands c.args.period.now (bands_of c.args.feed.now.bands c.args.trip) =
    rw c.requires.bands
    (get_or-map-range_with_len (λ one. weight_of_bands c.args.period.now (bands_of c.args.feed.now.bands one)) 0 (length c.args.feed.now.trips) c.args.trip c.args.trip None c.requires.trip (omega arith)) in
    c.weight_by.ensures.value
    ∙ weight-is c.args.feed.now c.args.period.now c.args.trip c.index-trips-trip.result (get_or c.args.running.now (get_or c.trips.result.now c.args.trip c.index-trips-trip.result).service false)
    (get_or c.args.bands.now c.args.trip None) c.requires.trip runs weigh
