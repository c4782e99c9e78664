use Rattle.std.proofs.Common.{◌<◌, arith}
use Rattle.service_period.proofs.WeightLemmas.{departures-is, departures-within}
use Rattle.service_period.proofs.weights.departures.Goals as goal

pub overflow_sub-result : goal.overflow_sub-result
overflow_sub-result c =
    let forward : c.args.period.now.from < c.args.period.now.to = omega arith in
    let counted = departures-is c.args.period.now c.args.band.now c.requires.headway forward in
    let all = rw c.to.ensures.value at c.departures_before.ensures.value in
    let early = rw c.from.ensures.value at c.departures_before-2.ensures.value in
    omega (arith, counted, all, early)

pub returns-clause-value : goal.returns-clause-value
returns-clause-value c =
    let forward : c.args.period.now.from < c.args.period.now.to = omega arith in
    let counted = departures-is c.args.period.now c.args.band.now c.requires.headway forward in
    let all = rw c.to.ensures.value at c.departures_before.ensures.value in
    let early = rw c.from.ensures.value at c.departures_before-2.ensures.value in
    omega (arith, counted, all, early)

pub returns-clause-within : goal.returns-clause-within
returns-clause-within c =
    let forward : c.args.period.now.from < c.args.period.now.to = omega arith in
    let counted = departures-is c.args.period.now c.args.band.now c.requires.headway forward in
    let within = departures-within c.args.period.now c.args.band.now in
    let all = rw c.to.ensures.value at c.departures_before.ensures.value in
    let early = rw c.from.ensures.value at c.departures_before-2.ensures.value in
    omega (arith, counted, all, early, within)
