use Rattle.std.proofs.Common.{[], ◌∷◌, ◌++◌, sym, ◌∙◌, codes}
use Rattle.std.proofs.lemmas.List.{append-nil}
use Rattle.definitions.specs.Decimal.{line_end}
use Rattle.desk.specs.Rows.{id, row_text}
use Rattle.desk.proofs.RowLemmas.{one_field, rows_more}
use Rattle.desk.proofs.generating.feed_files.stops.Goals as goal

pub loop-stop-init : goal.loop-stop-init
loop-stop-init c = c.in_ok-text.ensures.row ∙ sym (append-nil _)

pub loop-stop-preserved : goal.loop-stop-preserved
loop-stop-preserved c = rows_more (codes "stop_id" ++ line_end) (λ stop. row_text (id (codes "s") stop ∷ [])) c.loop-stop.stop c.loop-stop.invariant
    (one_field _ (id (codes "s") c.loop-stop.stop) line_end c.in_ok-push_last.ensures.piece)
