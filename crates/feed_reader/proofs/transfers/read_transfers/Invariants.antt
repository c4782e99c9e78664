use Rattle.std.proofs.Common.{◌≡◌, [], take}
use Rattle.std.specs.Prelude.{flat_map, filter_map}
use Rattle.std.specs.List.{range_with_len}
use Rattle.feed_reader.specs.Transfers.{transfer_faults, transfer_of}
use Rattle.feed_reader.proofs.transfers.read_transfers.Given as goal

abbrev pub invariant-loop-row : goal.invariant-loop-row
invariant-loop-row l = record {
  list : l.list.items ≡ filter_map (transfer_of l.stops) (take l.row l.sheet.rows);
  none : flat_map (transfer_faults l.stops l.sheet.rows) (range_with_len 0 l.row) ≡ [];
}
