use Rattle.std.proofs.Common.{◌≡◌, ◌++◌}
use Rattle.std.specs.List.{flat_map}
use Rattle.desk.specs.Draws.{state_after}
use Rattle.desk.specs.GeneratedTables.{draws_before_pair, others, pair_rows, pairs_before}
use Rattle.desk.proofs.generating.tables.push_pairs.Given as goal

abbrev pub invariant-loop-destination : goal.invariant-loop-destination
invariant-loop-destination l = record {
  text : l.text.items ≡ l.initial.text.items ++ flat_map (pair_rows l.words l.origin) (others l.origin l.destination);
  at : l.state ≡ state_after l.words.seed (draws_before_pair l.words (pairs_before l.words.zones l.origin l.destination));
}
