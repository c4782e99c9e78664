use Rattle.std.proofs.Common.{◌≡◌}
use Rattle.lp_model.specs.declared.fault.NetFault.TheVariants.{NoMemory}
use Rattle.network.proofs.CityLemmas.{only_memory}
use Rattle.network.proofs.building.network_of.Goals as goal
use Rattle.network.proofs.building.network_of.Goals.{in-NoMemory, in_default}

pub prove-unreachable-requires : goal.prove-unreachable-requires
prove-unreachable-requires c =
    let memory : c.in-Err.found ≡ NoMemory =
    only_memory c.args.given.now c.args.nodes c.args.arcs.items c.args.k c.in-Err.found c.requires.nodes c.requires.arcs c.rules.ensures.rules c.requires.faultless c.requires.k
    c.in-Err.ensures.refused in
    elim c.match-matches.branch [
      | in-NoMemory w ↦ cc (w.matches-is, c.if-prove.true)
      | in_default w ↦ w.in_default.not-NoMemory memory
    ]
