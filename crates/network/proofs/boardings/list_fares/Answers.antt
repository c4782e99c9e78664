use Rattle.std.proofs.Common.{[], ◌∷◌, ◌++◌, ap, sym, ◌∙◌, arith, map}
use Rattle.std.specs.List.{range_with_len}
use Rattle.std.proofs.lemmas.List.FromFn.{map-range_with_len_more}
use Rattle.network.specs.Boardings.{fares_at}
use Rattle.network.proofs.boardings.list_fares.Goals as goal

pub loop-line-preserved : goal.loop-line-preserved
loop-line-preserved g c =
    c.in_ok-push.ensures.items ∙ ap (λ l. l ++ c.fares_at.result ∷ []) c.loop-line.invariant
    ∙ ap (λ f. map (fares_at c.args.town.now) (range_with_len 0 c.loop-line.line) ++ f ∷ []) c.fares_at.ensures.value
    ∙ sym (map-range_with_len_more (fares_at c.args.town.now) 0 c.loop-line.line c.loop-line.line (omega arith))
