use Rattle.std.proofs.Common.{◌<◌, ◌^◌, length, ap}
use Rattle.feed_reader.proofs.StopLemmas.{table-is}
use Rattle.feed_reader.proofs.stops.read_stops.Goals as goal

pub invariant_of-result : goal.invariant_of-result
invariant_of-result c =
    let few : length c.in_ok-ids.ids.all < 2 ^ 32 = rw (ap length c.names-few.ensures.value) at c.names-few.ensures.few in
    table-is c.args.sheet.rows c.in_ok-ids.ids.all c.in_ok-ids.ids.stops c.in_ok-ids.ids.stations c.in_ok-sides.sides.items c.in_ok-stops.stops.items
    c.in_ok-ids.ensures.ids c.in_ok-sides.ensures.value c.in_ok-stops.ensures.value few
