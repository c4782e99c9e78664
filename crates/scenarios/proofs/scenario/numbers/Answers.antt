use Rattle.std.proofs.Common.{◌∙◌, sym, ap, ◌++◌, ◌∷◌, [], ℕ, List, zero-add}
use Rattle.std.proofs.lemmas.List.FromFn.{map-range_with_len_more}
use Rattle.scenarios.proofs.scenario.numbers.Goals as goal

pub loop-preserved : goal.loop-preserved
loop-preserved c =
    c.in_ok-push.ensures.items ∙ ap (λ (xs : List ℕ). xs ++ c.args.number ∷ []) c.loop.invariant
    ∙ sym (map-range_with_len_more (λ (place : ℕ). c.args.number) 0 c.loop.counter c.loop.counter (zero-add c.loop.counter))
