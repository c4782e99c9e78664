use Rattle.std.proofs.Common.{◌≡◌, ◌++◌, List, ℕ, length, take, drop, arith}
use Rattle.std.proofs.lemmas.Grind.{common_steps}
use Rattle.assign.specs.Visits.{demand_to}
use Rattle.assign.proofs.DemandLemmas.{carried_to}
use Rattle.assign.proofs.room.fill_for.Goals as goal

pub load_demand-requires-clause-carried : goal.load_demand-requires-clause-carried
load_demand-requires-clause-carried c =
    let items : List ℕ = take c.args.room.now.demand.len (c.fill_demand-units.new.demand ++ drop (length c.fill_demand-units.new.demand) c.args.room.now.demand.items) in
    let is : items ≡ demand_to c.args.city.now c.args.pairs.now c.args.zone = grind (arith, common_steps) in
    rw (c.net.ensures.value, c.goal.ensures.value) (carried_to c.args.city.now c.args.pairs.now c.args.zone items c.rules.ensures.rules c.requires.zone c.requires.reach is)
