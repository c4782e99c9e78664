use Rattle.std.proofs.Common.{◌≡◌, arith, subst, List}
use Rattle.std.specs.Prelude.{IfErr}
use Rattle.std.proofs.lemmas.Result.{on_ok_weaker}
use Rattle.network.specs.Arcs.{CityArc}
use Rattle.network.specs.Faults.{IsFirstFault, cost_faults}
use Rattle.network.specs.Sources.{kept_line}
use Rattle.network.proofs.AddingLemmas.{adds-same}
use Rattle.network.proofs.BoardingLemmas.{board-is, fare-is, fares-long}
use Rattle.network.proofs.stops.add_boarding.Goals as goal
use Rattle.scenarios.specs.Scenarios.{ticks_of}

pub bounds-fares-line : goal.bounds-fares-line
bounds-fares-line c =
    let segment = c.requires.segment in
    fares-long c.args.town.now c.args.fares.now c.args.boarding.line c.requires.fares segment.kept

pub returns-clause-added : goal.returns-clause-added
returns-clause-added c =
    let segment = c.requires.segment in
    let fare = fare-is c.args.town.now c.args.fares.now c.args.boarding.line c.args.layer c.requires.fares segment.kept in
    let cost : c.from-cost.result ≡ ticks_of c.args.town.now.scenario (kept_line c.args.town.now c.args.boarding.line).route c.args.layer = omega (arith, fare) in
    let tail = c.number-tail.ensures.value in
    let is = board-is c.args.town.now c.args.layer c.args.stop c.args.boarding.line c.args.boarding.place c.boarding_in.result c.number-tail.result c.number-head.result c.from-cost.result c.weight.result
    c.boarding_in.ensures.value (rw c.node_in.ensures.value at tail) c.number-head.ensures.value cost c.weight.ensures.value in
    on_ok_weaker c.push.result (λ added. adds-same _ _ _ _ is added) c.push.ensures.added

pub returns-clause-refused : goal.returns-clause-refused
returns-clause-refused c =
    let segment = c.requires.segment in
    let fare = fare-is c.args.town.now c.args.fares.now c.args.boarding.line c.args.layer c.requires.fares segment.kept in
    let cost : c.from-cost.result ≡ ticks_of c.args.town.now.scenario (kept_line c.args.town.now c.args.boarding.line).route c.args.layer = omega (arith, fare) in
    let tail = c.number-tail.ensures.value in
    let is = board-is c.args.town.now c.args.layer c.args.stop c.args.boarding.line c.args.boarding.place c.boarding_in.result c.number-tail.result c.number-head.result c.from-cost.result c.weight.result
    c.boarding_in.ensures.value (rw c.node_in.ensures.value at tail) c.number-head.ensures.value cost c.weight.ensures.value in
    subst (λ (l : List CityArc). IfErr c.push.result (IsFirstFault (cost_faults l))) is c.push.ensures.refused
