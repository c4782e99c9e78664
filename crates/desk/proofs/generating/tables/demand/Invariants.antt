use Rattle.std.proofs.Common.{◌≡◌}
use Rattle.desk.specs.Draws.{state_after}
use Rattle.desk.specs.GeneratedTables.{demand_sheet, draws_before_pair, pairs_before}
use Rattle.desk.proofs.generating.tables.demand.Given as goal

abbrev pub invariant-loop-origin : goal.invariant-loop-origin
invariant-loop-origin l = record {
  text : l.text.items ≡ demand_sheet l.words l.origin;
  at : l.state ≡ state_after l.words.seed (draws_before_pair l.words (pairs_before l.words.zones l.origin 0));
}
