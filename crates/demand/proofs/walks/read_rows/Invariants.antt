use Rattle.std.proofs.Common.{◌≡◌, [], take}
use Rattle.std.specs.Prelude.{flat_map}
use Rattle.std.specs.List.{range_with_len}
use Rattle.demand.specs.Walks.{walk_faults, walks_of}
use Rattle.demand.proofs.walks.read_rows.Given as goal

abbrev pub invariant-loop-row : goal.invariant-loop-row
invariant-loop-row l = record {
  walks : l.walks.items ≡ walks_of l.stops (take l.row l.sheet.rows);
  none : flat_map (walk_faults l.stops l.sheet.rows) (range_with_len 0 l.row) ≡ [];
}
