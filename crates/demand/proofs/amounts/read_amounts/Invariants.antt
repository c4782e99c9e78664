use Rattle.std.proofs.Common.{◌≡◌, [], length, take}
use Rattle.std.specs.Prelude.{flat_map}
use Rattle.std.specs.List.{range_with_len}
use Rattle.feed_reader.specs.Ids.{number_of}
use Rattle.demand.specs.Amounts.{AreAmounts, AreSound}
use Rattle.demand.specs.Demands.{demand_row_faults}
use Rattle.demand.proofs.amounts.read_amounts.Given as goal

abbrev pub invariant-loop-row : goal.invariant-loop-row
invariant-loop-row l = record {
  amounts : AreAmounts l.zones (take l.row l.sheet.rows) l.amounts;
  sound : AreSound (length l.zones) l.row l.amounts;
  none : flat_map (demand_row_faults l.zones l.sheet.rows) (range_with_len 0 l.row) ≡ [];
  origin : l.origin ≡ number_of l.zones l.last;
}
