use Rattle.std.proofs.Common.{[], ◌∷◌, ◌++◌, sym, ◌∙◌, codes}
use Rattle.std.proofs.lemmas.List.{append-nil}
use Rattle.definitions.specs.Decimal.{line_end, numeral}
use Rattle.desk.specs.Rows.{id, row_text}
use Rattle.desk.proofs.RowLemmas.{rows_more, two_fields}
use Rattle.desk.proofs.generating.feed_files.trips.Goals as goal

pub loop-line-init : goal.loop-line-init
loop-line-init c = c.in_ok-text.ensures.row ∙ sym (append-nil _)

pub loop-line-preserved : goal.loop-line-preserved
loop-line-preserved c = rows_more (codes "route_id,service_id,trip_id" ++ line_end) (λ line. row_text (id (codes "r") line ∷ codes "all" ∷ id (codes "t") line ∷ []))
    c.loop-line.line c.loop-line.invariant
    (two_fields _ (id (codes "r") c.loop-line.line) (codes ",all,t" ++ numeral c.loop-line.line) line_end c.in_ok-push.ensures.piece c.in_ok-push_last.ensures.piece)
