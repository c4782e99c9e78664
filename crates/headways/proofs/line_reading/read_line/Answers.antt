use Rattle.std.proofs.Common.{◌≡◌, ◌-◌, ◌∙◌, ap, arith, length, List, ℕ, map}
use Rattle.feed_reader.specs.declared.timetable.Call.{Call}
use Rattle.headways.specs.Lines.{place_of}
use Rattle.headways.proofs.FaultLemmas.{dwells-are, rides-are, route-is, same-line}
use Rattle.headways.proofs.line_reading.read_line.Goals as goal

pub returns-clause-value : goal.returns-clause-value
returns-clause-value c =
    same-line _ _ _ _ _ _ _ _ _ _
    (route-is c.args.feed.now c.trips.result.now c.args.first c.index-trips-first.result c.trips.ensures.value c.requires.first)
    (c.in_ok-weight.ensures.value ∙ c.sum_of.ensures.value)
    (c.new.ensures.value ∙ c.in_ok-places.ensures.value ∙ ap (λ (calls : List Call). map place_of calls) c.calls-calls.ensures.value)
    (c.new-2.ensures.value ∙ c.in_ok-rides.ensures.value ∙ rides-are c.args.feed.now c.args.weights.now c.args.trips.now (length c.calls-calls.result.now - 1) _ (ap (λ (calls : List Call). length calls - 1) c.calls-calls.ensures.value))
    (c.new-3.ensures.value ∙ c.in_ok-dwells.ensures.value ∙ dwells-are c.args.feed.now c.args.weights.now c.args.trips.now (length c.calls-calls.result.now - 1) _ (ap (λ (calls : List Call). length calls - 1) c.calls-calls.ensures.value))
