use Rattle.std.proofs.Common.{◌≡◌, map, take}
use Rattle.demand.specs.Zones.{link_of}
use Rattle.demand.proofs.zones.zone_links.Given as goal

abbrev pub invariant-loop-row : goal.invariant-loop-row
invariant-loop-row l = l.links.items ≡ map (link_of l.zones l.stops) (take l.row l.sheet.rows)
