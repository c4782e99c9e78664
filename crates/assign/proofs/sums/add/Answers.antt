use Rattle.std.proofs.Common.{◌≤◌, get_or, arith}
use Rattle.assign.proofs.SumLemmas.{volume_within, within_more}
use Rattle.assign.proofs.sums.add.Goals as goal

pub add_all-requires-clause-volumes : goal.add_all-requires-clause-volumes
add_all-requires-clause-volumes c = λ arc lt.
    let before : get_or c.args.sums.now.volumes.items arc 0 ≤ c.args.sums.now.units = c.requires.within.volumes arc (omega arith) in
    let more = volume_within c.args.net.now c.args.destination c.args.room.now c.requires.filled arc (omega arith) in
    omega arith

pub returns-clause-within : goal.returns-clause-within
returns-clause-within c =
    within_more c.args.net.now c.args.destination c.args.room.now c.args.sums.now c.add_all.new.sums c.requires.filled c.requires.within
    c.add_all.ensures.added c.add_all.ensures.stops c.add_all.ensures.longest
