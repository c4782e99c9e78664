-- The boarding arcs of a network, as arcs and as numbers.
use Rattle.std.proofs.Common.{◌≡◌, ℕ, cond, List, [], ◌∷◌, Option, None, Some, length, map, refl, sym, ◌∙◌, ap, arith, inl, inr}
use Rattle.std.specs.Bool.{nat_lt}
use Rattle.std.specs.Option.{is_some, unwrap_or}
use Rattle.std.specs.List.{filter, filter_map, cons_option, list_any}
use Rattle.std.proofs.lemmas.List.{take_all}
use Rattle.std.proofs.lemmas.Bool.{cases_Bool, lt-ltb}
use Rattle.definitions.specs.declared.arc.NetArc.{NetArc}
use Rattle.definitions.specs.Network.{NetworkData, no_arc, arc_at, is_boarding, weight_of, arc_numbers}
use Rattle.definitions.specs.Totals.{least_of, least_weight}
use Rattle.definitions.proofs.Spans.{map-span}

-- the arcs at all numbers are the arcs
pub map-arc_at : (net : NetworkData) → map (arc_at net) (arc_numbers net) ≡ net.arcs
map-arc_at net = map-span net.arcs no_arc 0 (length net.arcs) (omega arith) ∙ take_all (length net.arcs) net.arcs (omega arith)

-- the weights of arcs by their numbers
weights_by : (net : NetworkData) (numbers : List ℕ) → filter_map (λ arc. arc.weight) (map (arc_at net) numbers) ≡ map (weight_of net) (filter (is_boarding net) numbers)
weights_by net [] = refl
weights_by net (a ∷ numbers) =
    ap (cons_option (arc_at net a).weight) (weights_by net numbers)
    ∙ step (weight_of net) a (filter (is_boarding net) numbers) (arc_at net a).weight refl
  where
    step : (f : ℕ → ℕ) (a : ℕ) (ns : List ℕ) (weight : Option ℕ) → f a ≡ unwrap_or weight 0 → cons_option weight (map f ns) ≡ map f (cond (is_some weight) (a ∷ ns) ns)
    step f a ns None e = refl
    step f a ns (Some w) e = ap (λ v. v ∷ map f ns) (sym e)

-- the least weight among the arcs
pub least_of-weights : (net : NetworkData) → least_of (filter_map (λ (arc : NetArc). arc.weight) net.arcs) ≡ least_weight net
least_of-weights net =
    ap (λ arcs. least_of (filter_map (λ (arc : NetArc). arc.weight) arcs)) (sym (map-arc_at net))
    ∙ ap least_of (weights_by net (arc_numbers net))

-- some arc is boarded where the boarding arcs are not none
pub any_boarding : (net : NetworkData) (numbers : List ℕ) → list_any (λ (arc : NetArc). is_some arc.weight) (map (arc_at net) numbers) ≡ nat_lt 0 (length (filter (is_boarding net) numbers))
any_boarding net [] = refl
any_boarding net (a ∷ numbers) = elim (cases_Bool (is_boarding net a)) [
  | inl pass ↦ rw pass (sym (lt-ltb 0 (length (a ∷ filter (is_boarding net) numbers)) (omega arith)))
  | inr fail ↦ rw fail (any_boarding net numbers)
]
