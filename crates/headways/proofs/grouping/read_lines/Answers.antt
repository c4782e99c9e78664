use Rattle.headways.proofs.MemberLemmas.{groups-are}
use Rattle.headways.proofs.grouping.read_lines.Goals as goal

pub read_groups-requires-clause-groups : goal.read_groups-requires-clause-groups
read_groups-requires-clause-groups c = rw c.as_slice.ensures.value
    (groups-are c.args.feed.now c.args.weights.now c.args.numbered.counted.items c.group_by_line.new.counted.items c.args.numbered.firsts.items c.requires.numbered c.in_ok-group_by_line.ensures.each)
