use Rattle.std.proofs.Common.{◌≡◌, ℕ, List, [], ◌∷◌, Option, ap, sym, ◌∙◌, refl, rules, tests, min}
use Rattle.std.specs.Option.{unwrap_or}
use Rattle.std.specs.List.{reduce, filter_map}
use Rattle.std.proofs.lemmas.Iterator.{YieldsList-from_slice}
use Rattle.std.proofs.lemmas.Iterator.Consumers.{YieldsList-from_filter_map, min_from_yields_List}
use Rattle.std.proofs.lemmas.Iterator.Adapters.{option_map_id}
use Rattle.definitions.specs.declared.arc.NetArc.{NetArc}
use Rattle.definitions.specs.Totals.{least_of}
use Rattle.lp_model.proofs.boarding.least_weight_of.Goals as goal

least_reduced : (xs : List ℕ) → unwrap_or (reduce min xs) 0 ≡ least_of xs
least_reduced [] = refl
least_reduced (x ∷ xs) = refl

pub returns : goal.returns
returns c =
    let weight : NetArc → Option ℕ = λ arc. arc.weight in
    let reduced : c.min.result ≡ reduce min (filter_map weight c.args.arcs.now) =
    sym (option_map_id c.min.result)
    ∙ min_from_yields_List c.filter_map.result c.min.result c.min.ensures.ran
    (YieldsList-from_filter_map _ weight (YieldsList-from_slice c.args.arcs.now cc) c.filter_map.ensures.closure (λ x r q k. search (rules, tests))) in
    record { value = c.unwrap_or.ensures ∙ ap (λ o. unwrap_or o 0) reduced ∙ least_reduced (filter_map weight c.args.arcs.now) }
