use Rattle.std.proofs.Common.{◌≡◌, ◌∙◌, sym}
use Rattle.headways.specs.TripWeights.{is_on}
use Rattle.headways.proofs.WeightLemmas.{map-more, on-date}
use Rattle.headways.proofs.weights.running_services.Goals as goal

pub loop-service-preserved : goal.loop-service-preserved
loop-service-preserved c =
    let runs : c.runs.result ≡ is_on c.args.feed.now c.args.period.now c.loop-service.service =
    on-date c.args.feed.now c.args.period.now c.weeks-weeks.result.now c.exceptions-exceptions.result.now c.loop-service.service _ c.runs.result
    c.weeks-weeks.ensures.value c.exceptions-exceptions.ensures.value c.date-date.ensures.value c.runs.ensures.value in
    c.in_ok-push.ensures.items ∙ rw (c.loop-service.invariant, runs) (sym (map-more (is_on c.args.feed.now c.args.period.now) c.loop-service.service))
