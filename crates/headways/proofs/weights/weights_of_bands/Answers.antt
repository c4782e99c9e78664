use Rattle.std.proofs.Common.{◌∙◌, List, None, ap}
use Rattle.std.proofs.lemmas.List.{take_all}
use Rattle.gtfs_rows.specs.declared.timetable.Band.{Band}
use Rattle.headways.specs.TripWeights.{bands_of, weight_of_bands}
use Rattle.headways.proofs.WeightLemmas.{list-is}
use Rattle.headways.proofs.weights.weights_of_bands.Goals as goal

pub returns-clause-value : goal.returns-clause-value
returns-clause-value c =
    list-is (λ trip. weight_of_bands c.args.period.now (bands_of c.args.bands.now trip)) None c.loop-band.sums.items c.args.trips c.loop-band.invariant.long
    (λ trip lt. c.loop-band.invariant.each trip lt ∙ ap (λ (bands : List Band). weight_of_bands c.args.period.now (bands_of bands trip)) (take_all c.loop-band.band-index c.args.bands.now c.loop-band-test.false))
