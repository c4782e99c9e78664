use Rattle.std.proofs.Common.{◌++◌, codes}
use Rattle.definitions.specs.Decimal.{line_end}
use Rattle.desk.specs.GeneratedTables.{pairs_from}
use Rattle.desk.proofs.RowLemmas.{rows_more}
use Rattle.desk.proofs.generating.tables.demand.Goals as goal

pub loop-origin-preserved : goal.loop-origin-preserved
loop-origin-preserved c = record {
  text = rows_more (codes "origin,destination,trips" ++ line_end) (pairs_from c.args.words.now) c.loop-origin.origin c.loop-origin.invariant.text c.in_ok-push_pairs.ensures.rows;
  at = c.in_ok-push_pairs.ensures.state;
}
