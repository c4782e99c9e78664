use Rattle.std.proofs.Common.{◌++◌, codes}
use Rattle.definitions.specs.Decimal.{line_end, numeral}
use Rattle.desk.specs.Rows.{id}
use Rattle.desk.proofs.RowLemmas.{two_fields}
use Rattle.desk.proofs.generating.line_files.push_frequency.Goals as goal

pub returns : goal.returns
returns c = record {
  row = two_fields c.args.text.now.items (id (codes "t") c.args.line) (codes ",06:00:00,22:00:00," ++ numeral c.args.headway) line_end
      c.in_ok-push.ensures.piece c.in_ok-push_last.ensures.piece;
}
