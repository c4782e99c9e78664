-- The arcs of a node, where they are numbered one after the other.
use Rattle.std.proofs.Common.{◌≡◌, ℕ, zero, suc, ◌+◌, ◌<◌, ◌≤◌, ◌==◌, Bool, true, false, cond, List, [], ◌∷◌, length, refl, sym, ◌∙◌, ap, arith, get_or}
use Rattle.std.specs.List.{filter, range_with_len}
use Rattle.std.proofs.lemmas.Bool.{eq-eqb, eqb-true}
use Rattle.std.proofs.lemmas.List.Elements.{filter_passes}
use Rattle.std.proofs.lemmas.List.FromFn.{get_or-range_with_len, length-range_with_len}
use Rattle.definitions.specs.Network.{NetworkData, tail_of, out_arcs}

-- an element that passes stands in the filter
filter_at : (p : ℕ → Bool) (xs : List ℕ) (k : ℕ) → k < length xs → p (get_or xs k 0) ≡ true →
    (j : ℕ) × (j < length (filter p xs)) × (get_or (filter p xs) j 0 ≡ get_or xs k 0)
filter_at p [] k lt h = absurd (omega arith)
filter_at p (x ∷ xs) zero lt h = first (p x) x (filter p xs) h
  where
    first : (b : Bool) (x : ℕ) (ys : List ℕ) → b ≡ true → (j : ℕ) × (j < length (cond b (x ∷ ys) ys)) × (get_or (cond b (x ∷ ys) ys) j 0 ≡ x)
    first true x ys h = (0, omega arith, refl)
    first false x ys h = absurd cc
filter_at p (x ∷ xs) (suc k) lt h = kept (p x) x (filter p xs) (get_or xs k 0) (filter_at p xs k (omega arith) h)
  where
    kept : (b : Bool) (x : ℕ) (ys : List ℕ) (v : ℕ) → (j : ℕ) × (j < length ys) × (get_or ys j 0 ≡ v) →
        (j : ℕ) × (j < length (cond b (x ∷ ys) ys)) × (get_or (cond b (x ∷ ys) ys) j 0 ≡ v)
    kept true x ys v w = (suc w.0, (let lt = w.1 in omega arith), w.2)
    kept false x ys v w = w

-- each number of the span is an arc of the node
pub span_leaves : (net : NetworkData) (node f n : ℕ) → out_arcs net node ≡ range_with_len f n → (j : ℕ) → j < n → tail_of net (f + j) ≡ node
span_leaves net node f n e j lt =
    let here : ℕ → Bool = λ a. tail_of net a == node in
    let long : length (out_arcs net node) ≡ n = ap length e ∙ length-range_with_len f n in
    let at : get_or (out_arcs net node) j 0 ≡ f + j = ap (λ xs. get_or xs j 0) e ∙ get_or-range_with_len f n j 0 lt in
    let passes : (tail_of net (get_or (out_arcs net node) j 0) == node) ≡ true = filter_passes here (range_with_len 0 (length net.arcs)) j 0 (omega arith) in
    eqb-true (tail_of net (f + j)) node (ap here (sym at) ∙ passes)

-- each arc of the node is a number of the span
pub leaves_span : (net : NetworkData) (node f n : ℕ) → out_arcs net node ≡ range_with_len f n → (a : ℕ) → a < length net.arcs → tail_of net a ≡ node → (f ≤ a) × (a < f + n)
leaves_span net node f n e a lt from =
    let here : ℕ → Bool = λ b. tail_of net b == node in
    let arcs : List ℕ = range_with_len 0 (length net.arcs) in
    let own : get_or arcs a 0 ≡ a = get_or-range_with_len 0 (length net.arcs) a 0 lt ∙ (let z : 0 + a ≡ a = omega arith in z) in
    let w : (j : ℕ) × (j < length (filter here arcs)) × (get_or (filter here arcs) j 0 ≡ get_or arcs a 0) =
    filter_at here arcs a (omega (arith, length-range_with_len 0 (length net.arcs))) (ap here own ∙ eq-eqb (tail_of net a) node from) in
    let j : ℕ = w.0 in
    let inside : j < n = (let lt' = w.1 in let long : length (filter here arcs) ≡ n = ap length e ∙ length-range_with_len f n in omega arith) in
    let at : f + j ≡ a = sym (get_or-range_with_len f n j 0 inside) ∙ ap (λ xs. get_or xs j 0) (sym e) ∙ w.2 ∙ own in
    (omega arith, omega arith)
