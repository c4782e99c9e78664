use Rattle.std.proofs.Common.{◌≡◌, ◌≤◌, ◌+◌, ◌∙◌, sym, ap, List, ℕ, [], arith, refl}
use Rattle.std.proofs.lemmas.Result.{err_from_is_err_and}
use Rattle.headways.specs.declared.fault.LineFault.{LineFault}
use Rattle.headways.specs.Faults.{cost_faults}
use Rattle.headways.specs.Means.{begin_of, mean_of, means_of}
use Rattle.headways.proofs.FaultLemmas.{begin-most, costs-more, mean-refused, means-more}
use Rattle.headways.proofs.means.means.Goals as goal

pub returns-in_err-ticks-clause-refused : goal.returns-in_err-ticks-clause-refused
returns-in_err-ticks-clause-refused c =
    let begin : begin_of c.args.part ≤ c.loop-place.place = omega (arith, c.loop-place.auto.place) in
    let p = err_from_is_err_and c.from_residual.result c.from_residual.ensures.1 in
    rw (p.1, p.2) (mean-refused c.args.feed.now c.args.weights.now c.args.trips.now c.args.part c.loop-place.place c.args.end c.in_err-ticks.field-0.0 begin (omega arith)
    c.loop-place.invariant.faultless (rw c.mean.ensures.value at c.in_err-ticks.ensures.refused))

pub loop-place-preserved : goal.loop-place-preserved
loop-place-preserved c =
    let begin : begin_of c.args.part ≤ c.loop-place.place = omega (arith, c.loop-place.auto.place) in
    let more = means-more c.args.feed.now c.args.weights.now c.args.trips.now c.args.part c.loop-place.place begin in
    let none : cost_faults (means_of c.args.feed.now c.args.weights.now c.args.trips.now c.args.part (c.loop-place.place + 1)) ≡ [] =
    rw (more, costs-more (means_of c.args.feed.now c.args.weights.now c.args.trips.now c.args.part c.loop-place.place) (mean_of c.args.feed.now c.args.weights.now c.args.trips.now c.args.part c.loop-place.place), c.loop-place.invariant.faultless)
    (rw c.mean.ensures.value at c.in_ok-ticks.ensures.faultless) in
    record { value = c.in_ok-push.ensures.items ∙ rw (c.loop-place.invariant.value, c.in_ok-ticks.ensures.value, c.mean.ensures.value) (sym more); faultless = none }

pub returns-clause-value : goal.returns-clause-value
returns-clause-value c =
    let least = begin-most c.args.part in
    let at : c.loop-place.place ≡ c.args.end = omega arith in
    c.loop-place.invariant.value ∙ ap (λ (n : ℕ). means_of c.args.feed.now c.args.weights.now c.args.trips.now c.args.part n) at
