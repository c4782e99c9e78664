use Rattle.std.proofs.Common.{◌≡◌, [], length, take}
use Rattle.std.specs.Prelude.{flat_map}
use Rattle.std.specs.List.{range_with_len}
use Rattle.scenarios.specs.Faults.{row_faults}
use Rattle.scenarios.specs.Scenarios.{scenario_of}
use Rattle.scenarios.proofs.rows.read_rows.Given as goal

abbrev pub invariant-loop-row : goal.invariant-loop-row
invariant-loop-row l = record {
  scenario : l.scenario ≡ scenario_of l.routes l.stops (take l.row l.sheet.rows);
  faultless : flat_map (row_faults l.routes l.stops l.sheet.rows) (take l.row (range_with_len 0 (length l.sheet.rows))) ≡ [];
}
