use Rattle.std.proofs.Common.{◌≡◌, map, take}
use Rattle.feed_reader.specs.StopTables.{row_side}
use Rattle.feed_reader.proofs.stops.sides_of.Given as goal

abbrev pub invariant-loop-row : goal.invariant-loop-row
invariant-loop-row l = l.sides.items ≡ map (row_side l.ids.stops l.ids.stations) (take l.row l.sheet.rows)
