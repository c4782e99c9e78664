-- The arcs of a node, as the range of their numbers.
use Rattle.std.proofs.Common.{◌≡◌, ℕ, zero, suc, ◌+◌, ◌-◌, ◌*◌, ◌<◌, ◌≤◌, ◌==◌, Bool, true, false, cond, List, ◌∷◌, length, Option, None, Some, get_or, refl, sym, ap, subst, ◌∙◌, arith, inl, inr}
use Rattle.std.specs.Prelude.{is_some, unwrap_or, All}
use Rattle.std.specs.List.{sum_by, filter, range_with_len}
use Rattle.std.proofs.lemmas.Bool.{cases_eq, eqb-true, eq-eqb}
use Rattle.std.proofs.lemmas.List.Elements.{All-head, All-tail, All-get_or, All-from_get_or}
use Rattle.std.proofs.lemmas.List.FromFn.{get_or-range_with_len, length-range_with_len}
use Rattle.std.proofs.lemmas.List.Sums.{sum_by_push}
use Rattle.definitions.specs.Network.{NetworkData, tail_of, arc_at, is_boarding, weight_of, out_arcs, boarding_arcs}
use Rattle.definitions.specs.Dual.{saving, weighted_savings}
use Rattle.definitions.proofs.Sums.{sum_by-filter, sum_by-same, range_more}
use Rattle.definitions.proofs.Spans.{filter_keeps}

-- what holds of all that a filter keeps holds of each that passes
found : (P : ℕ → Type 0) (p : ℕ → Bool) (x s n : ℕ) → s ≤ x → x < s + n → p x ≡ true → All P (filter p (range_with_len s n)) → P x
found P p x s zero low high pass all = absurd (omega arith)
found P p x s (suc n) low high pass all = elim (cases_eq x s) [
  | inl same ↦ (
      let here : p s ≡ true = ap p (sym same) ∙ pass in
      let kept : All P (s ∷ filter p (range_with_len (s + 1) n)) = rw here at all in
      subst P (sym same) (All-head P s (filter p (range_with_len (s + 1) n)) kept))
  | inr other ↦ found P p x (s + 1) n (omega arith) (omega arith) pass (tail (p s) all)
]
  where
    tail : (b : Bool) → All P (cond b (s ∷ filter p (range_with_len (s + 1) n)) (filter p (range_with_len (s + 1) n))) → All P (filter p (range_with_len (s + 1) n))
    tail true all = All-tail P s (filter p (range_with_len (s + 1) n)) all
    tail false all = all

-- the arcs of a node are the range from its first to its end
pub record AreOwn (net : NetworkData) (node first end : ℕ) : Type 0 where
  pub order : first ≤ end
  pub arcs : out_arcs net node ≡ range_with_len first (end - first)

-- each arc of the range leaves the node
pub record IsOwn (net : NetworkData) (node arc : ℕ) : Type 0 where
  pub within : arc < length net.arcs
  pub leaves : tail_of net arc ≡ node

pub own_are : (net : NetworkData) (node first end arc : ℕ) → AreOwn net node first end → first ≤ arc → arc < end → IsOwn net node arc
own_are net node first end arc own low high =
    let p : ℕ → Bool = λ a. tail_of net a == node in
    let P : ℕ → Type 0 = λ a. (a < 0 + length net.arcs) × (p a ≡ true) in
    let kept : All P (filter p (range_with_len 0 (length net.arcs))) = filter_keeps p 0 (length net.arcs) in
    let listed : All P (range_with_len first (end - first)) = subst (All P) own.arcs kept in
    let lt : arc - first < end - first = omega arith in
    let long : arc - first < length (range_with_len first (end - first)) = rw length-range_with_len lt in
    let at : P (get_or (range_with_len first (end - first)) (arc - first) 0) = All-get_or P (range_with_len first (end - first)) (arc - first) 0 long listed in
    let here : get_or (range_with_len first (end - first)) (arc - first) 0 ≡ arc = get_or-range_with_len first (end - first) (arc - first) 0 lt ∙ omega arith in
    let both : P arc = subst P here at in
    record { within = omega (arith, both.0); leaves = eqb-true (tail_of net arc) node both.1 }

-- each arc that leaves the node is in the range
pub record IsBetween (first end arc : ℕ) : Type 0 where
  pub low : first ≤ arc
  pub high : arc < end

pub own_only : (net : NetworkData) (node first end arc : ℕ) → AreOwn net node first end → arc < length net.arcs → tail_of net arc ≡ node → IsBetween first end arc
own_only net node first end arc own within leaves =
    let p : ℕ → Bool = λ a. tail_of net a == node in
    let in_range : All (IsBetween first end) (range_with_len first (end - first)) =
    All-from_get_or (IsBetween first end) (range_with_len first (end - first)) 0
    (λ i lt. let short : i < end - first = rw length-range_with_len at lt in
    let here : get_or (range_with_len first (end - first)) i 0 ≡ first + i = get_or-range_with_len first (end - first) i 0 short in
    subst (IsBetween first end) (sym here) (record { low = omega arith; high = omega arith })) in
    found (IsBetween first end) p arc 0 (length net.arcs) (omega arith) (omega arith) (eq-eqb (tail_of net arc) node leaves) (subst (All (IsBetween first end)) (sym own.arcs) in_range)

-- ---- savings

-- one more arc
pub sum_next : (f : ℕ → ℕ) (first arc : ℕ) → first ≤ arc → sum_by f (range_with_len first (arc + 1 - first)) ≡ sum_by f (range_with_len first (arc - first)) + f arc
sum_next f first arc le =
    let n : arc + 1 - first ≡ arc - first + 1 = omega arith in
    let last : first + (arc - first) ≡ arc = omega arith in
    ap (λ m. sum_by f (range_with_len first m)) n ∙ ap (sum_by f) (range_more first (arc - first)) ∙ sum_by_push f (range_with_len first (arc - first)) (first + (arc - first))
    ∙ ap (λ a. sum_by f (range_with_len first (arc - first)) + f a) last

-- free arcs have no weight, so all arcs of the node may be summed
pub all_savings : (net : NetworkData) (labels : List ℕ) (label node first end : ℕ) → AreOwn net node first end →
    sum_by (λ a. weight_of net a * saving net labels label a) (range_with_len first (end - first)) ≡ weighted_savings net labels (boarding_arcs net node) label
all_savings net labels label node first end own =
    let f : ℕ → ℕ = λ a. weight_of net a * saving net labels label a in
    ap (sum_by f) (sym own.arcs)
    ∙ sum_by-same f (λ a. cond (is_boarding net a) (f a) 0) (out_arcs net node) (λ a. weighted (arc_at net a).weight (saving net labels label a))
    ∙ sym (sum_by-filter f (is_boarding net) (out_arcs net node))
  where
    weighted : (w : Option ℕ) (s : ℕ) → unwrap_or w 0 * s ≡ cond (is_some w) (unwrap_or w 0 * s) 0
    weighted None s = omega arith
    weighted (Some w) s = refl
