use Rattle.std.proofs.Common.{◌∙◌, ap, map, arith}
use Rattle.std.proofs.lemmas.List.{take_all}
use Rattle.demand.specs.Zones.{link_of}
use Rattle.demand.proofs.zones.zone_links.Goals as goal

pub returns : goal.returns
returns c = record { links = c.loop-row.invariant ∙ ap (map (link_of c.args.zones.now c.args.stops.now)) (take_all c.loop-row.row c.args.sheet.now.rows (omega arith)) }
