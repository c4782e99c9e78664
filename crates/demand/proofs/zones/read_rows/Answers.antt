use Rattle.demand.proofs.LawLemmas.{zone-law}
use Rattle.demand.proofs.zones.read_rows.Goals as goal

pub invariant_of-result : goal.invariant_of-result
invariant_of-result c = (c.in_ok-ids.ensures.few, zone-law c.args.stops.now c.args.sheet.now.rows c.in_ok-ids.ids c.in_ok-links.links.items c.in_ok-ids.ensures.ids c.in_ok-links.ensures.links c.in_ok-ids.ensures.faultless)
