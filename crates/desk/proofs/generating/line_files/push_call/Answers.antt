use Rattle.std.proofs.Common.{◌∷◌, ◌++◌, codes}
use Rattle.definitions.specs.Decimal.{line_end, numeral}
use Rattle.desk.specs.Rows.{clock_text, id}
use Rattle.desk.proofs.RowLemmas.{five_fields}
use Rattle.desk.proofs.generating.line_files.push_call.Goals as goal

pub returns : goal.returns
returns c = record {
  row = five_fields c.args.text.now.items (id (codes "t") c.args.line) (44 ∷ clock_text c.args.time) (44 ∷ clock_text c.args.time)
      (codes ",s" ++ numeral c.args.stop) (codes "," ++ numeral c.args.sequence) line_end
      c.in_ok-push.ensures.piece c.in_ok-push_clock.ensures.piece c.in_ok-push_clock-2.ensures.piece c.in_ok-push-2.ensures.piece c.in_ok-push_last.ensures.piece;
}
