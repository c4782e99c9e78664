use Rattle.std.proofs.Common.{[], ◌∷◌, ◌++◌, sym, ◌∙◌, codes}
use Rattle.std.proofs.lemmas.List.{append-nil}
use Rattle.definitions.specs.Decimal.{line_end}
use Rattle.desk.specs.Rows.{id, row_text}
use Rattle.desk.proofs.RowLemmas.{one_field, rows_more}
use Rattle.desk.proofs.generating.feed_files.routes.Goals as goal

pub loop-line-init : goal.loop-line-init
loop-line-init c = c.in_ok-text.ensures.row ∙ sym (append-nil _)

pub loop-line-preserved : goal.loop-line-preserved
loop-line-preserved c = rows_more (codes "route_id" ++ line_end) (λ line. row_text (id (codes "r") line ∷ [])) c.loop-line.line c.loop-line.invariant
    (one_field _ (id (codes "r") c.loop-line.line) line_end c.in_ok-push_last.ensures.piece)
