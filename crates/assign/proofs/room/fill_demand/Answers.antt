use Rattle.assign.proofs.DemandLemmas.{is_demand}
use Rattle.assign.proofs.room.fill_demand.Goals as goal
use Rattle.std.proofs.Common.{arith}

pub returns-clause-demand : goal.returns-clause-demand
returns-clause-demand c = is_demand c.args.city.now c.args.pairs.now c.args.zone c.fill.new.demand c.requires.pairs (omega arith) c.fill.ensures.each
