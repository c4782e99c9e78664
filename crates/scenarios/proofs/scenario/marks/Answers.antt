use Rattle.std.proofs.Common.{◌∙◌, sym, ap, ◌++◌, ◌∷◌, [], ℕ, Bool, false, List, zero-add}
use Rattle.std.proofs.lemmas.List.FromFn.{map-range_with_len_more}
use Rattle.scenarios.proofs.scenario.marks.Goals as goal

pub loop-preserved : goal.loop-preserved
loop-preserved c =
    c.in_ok-push.ensures.items ∙ ap (λ (xs : List Bool). xs ++ false ∷ []) c.loop.invariant
    ∙ sym (map-range_with_len_more (λ (place : ℕ). false) 0 c.loop.counter c.loop.counter (zero-add c.loop.counter))
