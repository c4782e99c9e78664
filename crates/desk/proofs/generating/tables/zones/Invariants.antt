use Rattle.std.proofs.Common.{◌≡◌}
use Rattle.desk.specs.Draws.{state_after}
use Rattle.desk.specs.GeneratedTables.{draws_before_zone, zone_sheet}
use Rattle.desk.proofs.generating.tables.zones.Given as goal

abbrev pub invariant-loop-zone : goal.invariant-loop-zone
invariant-loop-zone l = record {
  text : l.text.items ≡ zone_sheet l.words l.zone;
  at : l.state ≡ state_after l.words.seed (draws_before_zone l.words l.zone);
}
