use Rattle.std.proofs.Common.{◌<◌, arith}
use Rattle.assign.proofs.HubLemmas.{some_found}
use Rattle.assign.proofs.marking.Marking.middle.Goals as goal

pub found_node-requires-clause-place : goal.found_node-requires-clause-place
found_node-requires-clause-place c =
    let some = some_found c.args.net.now c.args.dest c.args.self.now c.requires.dest c.requires.found c.requires.reach in
    omega arith
