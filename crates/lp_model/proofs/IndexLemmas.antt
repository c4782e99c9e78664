-- What stands at a node's places in an indexed network.
use Rattle.std.proofs.Common.{◌≡◌, ℕ, ◌+◌, ◌-◌, ◌<◌, ◌≤◌, ◌==◌, true, List, [], ◌∷◌, length, map, take, drop, get_or, Option, None, Some, is_some, unwrap_or, refl, sym, ◌∙◌, ap, arith}
use Rattle.std.specs.List.{All, range_with_len, sum_by}
use Rattle.std.specs.Prelude.{nat_lt}
use Rattle.std.proofs.lemmas.Bool.{lt-ltb}
use Rattle.std.proofs.lemmas.List.{length-map, drop-map, take-map}
use Rattle.std.proofs.lemmas.List.Elements.{All-weaker, All-map}
use Rattle.std.proofs.lemmas.List.Sums.{sum_by-cons}
use Rattle.definitions.specs.Network.{NetworkData, IsNetwork, no_arc, arc_at, tail_of, head_of, out_arcs, in_arcs}
use Rattle.definitions.proofs.Spans.{map-span, filter_keeps}
use Rattle.definitions.proofs.Grouped.{lesser, lesser_next, those_within, those_span}
use Rattle.definitions.specs.declared.arc.NetArc.{NetArc}
use Rattle.lp_model.specs.declared.entering.Entering.{Entering}
use Rattle.lp_model.specs.Entered.{IsEntering, entering_in}
use Rattle.lp_model.specs.Indexed.{IsIndexed}
use Rattle.lp_model.specs.Parts.{first_arc}

-- the first places of a node and of the next, by tail
pub out_first : (net : NetworkData) (firsts : List ℕ) (entering : List Entering) (entering_firsts : List ℕ) (n : ℕ) → IsIndexed net firsts entering entering_firsts → n < net.nodes → get_or firsts n 0 ≡ first_arc net n
out_first net firsts entering entering_firsts n ix lt = ix.by_tail n (omega (arith, ix.first_each))

pub out_next : (net : NetworkData) (firsts : List ℕ) (entering : List Entering) (entering_firsts : List ℕ) (n : ℕ) → IsIndexed net firsts entering entering_firsts → n < net.nodes →
    get_or firsts (n + 1) 0 ≡ get_or firsts n 0 + length (out_arcs net n)
out_next net firsts entering entering_firsts n ix lt =
    ix.by_tail (n + 1) (omega (arith, ix.first_each))
    ∙ lesser_next (tail_of net) (length net.arcs) n
    ∙ ap (λ first. first + length (out_arcs net n)) (sym (out_first net firsts entering entering_firsts n ix lt))

-- the first places of a node and of the next, by head
pub into_first : (net : NetworkData) (firsts : List ℕ) (entering : List Entering) (entering_firsts : List ℕ) (n : ℕ) → IsIndexed net firsts entering entering_firsts → n < net.nodes →
    get_or entering_firsts n 0 ≡ lesser (head_of net) (length net.arcs) n
into_first net firsts entering entering_firsts n ix lt = ix.by_head n (omega (arith, ix.entering_first_each))

pub into_next : (net : NetworkData) (firsts : List ℕ) (entering : List Entering) (entering_firsts : List ℕ) (n : ℕ) → IsIndexed net firsts entering entering_firsts → n < net.nodes →
    get_or entering_firsts (n + 1) 0 ≡ get_or entering_firsts n 0 + length (in_arcs net n)
into_next net firsts entering entering_firsts n ix lt =
    ix.by_head (n + 1) (omega (arith, ix.entering_first_each))
    ∙ lesser_next (head_of net) (length net.arcs) n
    ∙ ap (λ first. first + length (in_arcs net n)) (sym (into_first net firsts entering entering_firsts n ix lt))

-- a node's places are within the arcs
pub out_within : (net : NetworkData) (firsts : List ℕ) (entering : List Entering) (entering_firsts : List ℕ) (n : ℕ) → IsIndexed net firsts entering entering_firsts → n < net.nodes →
    get_or firsts n 0 + length (out_arcs net n) ≤ length net.arcs
out_within net firsts entering entering_firsts n ix lt = omega (arith, out_first net firsts entering entering_firsts n ix lt, those_within (tail_of net) (length net.arcs) n)

pub into_within : (net : NetworkData) (firsts : List ℕ) (entering : List Entering) (entering_firsts : List ℕ) (n : ℕ) → IsIndexed net firsts entering entering_firsts → n < net.nodes →
    get_or entering_firsts n 0 + length (in_arcs net n) ≤ length net.arcs
into_within net firsts entering entering_firsts n ix lt = omega (arith, into_first net firsts entering entering_firsts n ix lt, those_within (head_of net) (length net.arcs) n)

-- the arcs at a node's places
pub out_part : (net : NetworkData) (firsts : List ℕ) (entering : List Entering) (entering_firsts : List ℕ) (n : ℕ) → IsIndexed net firsts entering entering_firsts → n < net.nodes →
    take (get_or firsts (n + 1) 0 - get_or firsts n 0) (drop (get_or firsts n 0) net.arcs) ≡ map (arc_at net) (out_arcs net n)
out_part net firsts entering entering_firsts n ix lt =
    let count : get_or firsts (n + 1) 0 - get_or firsts n 0 ≡ length (out_arcs net n) = omega (arith, out_next net firsts entering entering_firsts n ix lt) in
    let first = out_first net firsts entering entering_firsts n ix lt in
    ap (λ c. take c (drop (get_or firsts n 0) net.arcs)) count
    ∙ ap (λ f. take (length (out_arcs net n)) (drop f net.arcs)) first
    ∙ sym (map-span net.arcs no_arc (first_arc net n) (length (out_arcs net n)) (those_within (tail_of net) (length net.arcs) n))
    ∙ ap (map (arc_at net)) (sym (those_span (tail_of net) (length net.arcs) n ix.rules.grouped))

pub out_numbers : (net : NetworkData) (n : ℕ) → IsNetwork net → out_arcs net n ≡ range_with_len (first_arc net n) (length (map (arc_at net) (out_arcs net n)))
out_numbers net n rules = those_span (tail_of net) (length net.arcs) n rules.grouped ∙ ap (range_with_len (first_arc net n)) (sym (length-map (out_arcs net n) (arc_at net)))

-- the arcs at a node's places, by head
pub into_part : (net : NetworkData) (firsts : List ℕ) (entering : List Entering) (entering_firsts : List ℕ) (n : ℕ) → IsIndexed net firsts entering entering_firsts → n < net.nodes →
    take (get_or entering_firsts (n + 1) 0 - get_or entering_firsts n 0) (drop (get_or entering_firsts n 0) entering) ≡ map (entering_in net.arcs) (in_arcs net n)
into_part net firsts entering entering_firsts n ix lt =
    let of : ℕ → Entering = entering_in net.arcs in
    let numbers : List ℕ = ix.entered.numbers in
    let count : get_or entering_firsts (n + 1) 0 - get_or entering_firsts n 0 ≡ length (in_arcs net n) = omega (arith, into_next net firsts entering entering_firsts n ix lt) in
    ap (λ c. take c (drop (get_or entering_firsts n 0) entering)) count
    ∙ ap (λ f. take (length (in_arcs net n)) (drop f entering)) (into_first net firsts entering entering_firsts n ix lt)
    ∙ ap (λ es. take (length (in_arcs net n)) (drop (lesser (head_of net) (length net.arcs) n) es)) ix.entered.same
    ∙ ap (take (length (in_arcs net n))) (drop-map of (lesser (head_of net) (length net.arcs) n) numbers)
    ∙ take-map of (length (in_arcs net n)) (drop (lesser (head_of net) (length net.arcs) n) numbers)
    ∙ ap (map of) (ix.entered.grouped n (omega arith))

pub in_arcs_there : (net : NetworkData) (n : ℕ) → All (λ arc. arc < length net.arcs) (in_arcs net n)
in_arcs_there net n =
    All-weaker (λ arc. (arc < 0 + length net.arcs) × (head_of net arc == n ≡ true)) (λ arc. arc < length net.arcs) (λ arc h. omega (arith, h.0)) (in_arcs net n)
    (filter_keeps (λ arc. head_of net arc == n) 0 (length net.arcs))

-- a weight is positive where an arc is boarded, and 0 where it is free
boards_by : (o : Option ℕ) → (is_some o ≡ true → 0 < unwrap_or o 0) → is_some o ≡ nat_lt 0 (unwrap_or o 0)
boards_by None h = refl
boards_by (Some weight) h = sym (lt-ltb 0 weight (h refl))

pub entering_is : (net : NetworkData) (arc : ℕ) → IsNetwork net → arc < length net.arcs → IsEntering net (entering_in net.arcs arc)
entering_is net arc rules lt = record {
  there = lt;
  tail = refl;
  cost = refl;
  weight = refl;
  boards = boards_by (arc_at net arc).weight (rules.well_formed.weights arc lt);
  inside = rules.well_formed.tails arc lt;
}

pub entering_there : (net : NetworkData) (n : ℕ) → IsNetwork net → All (IsEntering net) (map (entering_in net.arcs) (in_arcs net n))
entering_there net n rules =
    All-map (IsEntering net) (entering_in net.arcs) (in_arcs net n)
    (All-weaker (λ arc. arc < length net.arcs) (λ arc. IsEntering net (entering_in net.arcs arc)) (λ arc lt. entering_is net arc rules lt) (in_arcs net n) (in_arcs_there net n))

-- the sum over the arcs into a node
pub sum_entering : (f : ℕ → ℕ) (arcs : List NetArc) (numbers : List ℕ) → sum_by (λ arc. f arc.arc) (map (entering_in arcs) numbers) ≡ sum_by f numbers
sum_entering f arcs [] = refl
sum_entering f arcs (number ∷ numbers) =
    sum_by-cons (λ arc. f arc.arc) (entering_in arcs number) (map (entering_in arcs) numbers)
    ∙ ap (λ rest. f number + rest) (sum_entering f arcs numbers)
    ∙ sym (sum_by-cons f number numbers)
