use Rattle.std.proofs.Common.{◌≡◌, ◌≤◌, [], length, take}
use Rattle.std.specs.Prelude.{flat_map}
use Rattle.std.specs.List.{range_with_len}
use Rattle.demand.specs.declared.limits.TheConstants.{ZONE_LIMIT}
use Rattle.demand.specs.Zones.{zone_faults, zones_of}
use Rattle.demand.proofs.zones.zone_ids.Given as goal

abbrev pub invariant-loop-row : goal.invariant-loop-row
invariant-loop-row l = record {
  ids : l.zones ≡ zones_of (take l.row l.sheet.rows);
  few : length l.zones ≤ ZONE_LIMIT;
  none : flat_map (zone_faults l.stops l.sheet.rows) (range_with_len 0 l.row) ≡ [];
}
