use Rattle.std.proofs.Common.{◌≡◌, [], map, take}
use Rattle.std.specs.Prelude.{flat_map}
use Rattle.std.specs.List.{range_with_len}
use Rattle.feed_reader.specs.Routes.{route_faults, route_id}
use Rattle.feed_reader.proofs.routes.read_routes.Given as goal

abbrev pub invariant-loop-row : goal.invariant-loop-row
invariant-loop-row l = record {
  ids : l.ids ≡ map route_id (take l.row l.sheet.rows);
  none : flat_map (route_faults l.sheet.rows) (range_with_len 0 l.row) ≡ [];
}
