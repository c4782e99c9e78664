-- The flow into a node on arcs that follow one another, which have volumes where there were none.
use Rattle.std.proofs.Common.{◌≡◌, ◌≢◌, ℕ, zero, suc, ◌+◌, ◌-◌, ◌<◌, ◌≤◌, ◌==◌, Bool, true, false, cond, List, length, sym, ◌∙◌, ap, arith, inl, inr, ◌⊎◌, get_or, set, subst}
use Rattle.std.specs.List.{sum_by, range_with_len}
use Rattle.std.proofs.lemmas.List.{get_or-set_other}
use Rattle.std.proofs.lemmas.List.Sums.{sum_by-cons, sum_by-append, sum_by_push}
use Rattle.definitions.specs.Network.{NetworkData, tail_of, head_of, arc_numbers}
use Rattle.definitions.specs.Plan.{flow_into}
use Rattle.definitions.proofs.Sums.{sum_by-filter, sum_by-none, range_same, range_more}
use Rattle.definitions.proofs.Spans.{range_split}
use Rattle.loading.specs.Arrivals.{flow_among, GrowsAsFlow}
use Rattle.loading.proofs.NoUnitLemmas.{either_none}

-- what an arc brings to a node
abbrev brought : NetworkData → List ℕ → ℕ → ℕ → ℕ
brought net v node a = cond (head_of net a == node) (get_or v a 0) 0

-- one more arc
pub among_more : (net : NetworkData) (v : List ℕ) (f k node : ℕ) →
    flow_among net v f (k + 1) node ≡ flow_among net v f k node + cond (head_of net (f + k) == node) (get_or v (f + k) 0) 0
among_more net v f k node = ap (sum_by (brought net v node)) (range_more f k) ∙ sum_by_push (brought net v node) (range_with_len f k) (f + k)

-- a sum of terms that are no more than others, and one of the others
so_far : (g h : ℕ → ℕ) (f k n : ℕ) → ((i : ℕ) → g i ≤ h i) → k < n → sum_by g (range_with_len f k) + h (f + k) ≤ sum_by h (range_with_len f n)
so_far g h f k zero less lt = absurd (omega arith)
so_far g h f zero (suc n) less lt =
    let e : f + zero ≡ f = omega arith in
    rw (sum_by-cons h f (range_with_len (f + 1) n), e) (omega arith)
so_far g h f (suc k) (suc n) less lt =
    let first = less f in
    let e : f + suc k ≡ f + 1 + k = omega arith in
    let rest : sum_by g (range_with_len (f + 1) k) + h (f + 1 + k) ≤ sum_by h (range_with_len (f + 1) n) = so_far g h (f + 1) k n less (omega arith) in
    rw (sum_by-cons g f (range_with_len (f + 1) k), sum_by-cons h f (range_with_len (f + 1) n), e) (omega arith)

-- what arcs so far bring to a node, and the volume of the next one, is within the volumes of all
pub among_within : (net : NetworkData) (v : List ℕ) (f k n node : ℕ) → k < n →
    flow_among net v f k node + get_or v (f + k) 0 ≤ sum_by (λ a. get_or v a 0) (range_with_len f n)
among_within net v f k n node lt = so_far (brought net v node) (λ a. get_or v a 0) f k n (λ a. no_more (head_of net a == node) (get_or v a 0)) lt
  where
    no_more : (b : Bool) (x : ℕ) → cond b x 0 ≤ x
    no_more true x = omega arith
    no_more false x = omega arith

-- ---- a span of a sum

-- a sum over a range, in three parts
in_three : (g : ℕ → ℕ) (f n r : ℕ) →
    sum_by g (range_with_len 0 (f + (n + r))) ≡ sum_by g (range_with_len 0 f) + (sum_by g (range_with_len f n) + sum_by g (range_with_len (f + n) r))
in_three g f n r =
    let z : 0 + f ≡ f = omega arith in
    ap (sum_by g) (range_split 0 f (n + r))
    ∙ sum_by-append g (range_with_len 0 f) (range_with_len (0 + f) (n + r))
    ∙ ap (λ t. sum_by g (range_with_len 0 f) + sum_by g (range_with_len t (n + r))) z
    ∙ ap (λ s. sum_by g (range_with_len 0 f) + s) (ap (sum_by g) (range_split f n r) ∙ sum_by-append g (range_with_len f n) (range_with_len (f + n) r))

-- where terms of a span are set that were 0, the sum grows by them
span_grows : (g h : ℕ → ℕ) (f n r : ℕ) → ((a : ℕ) → a < f + (n + r) → (a < f) ⊎ (f + n ≤ a) → h a ≡ g a) → ((a : ℕ) → f ≤ a → a < f + n → g a ≡ 0) →
    sum_by h (range_with_len 0 (f + (n + r))) ≡ sum_by g (range_with_len 0 (f + (n + r))) + sum_by h (range_with_len f n)
span_grows g h f n r outside empty =
    let before : sum_by h (range_with_len 0 f) ≡ sum_by g (range_with_len 0 f) = range_same h g 0 f (λ a low high. outside a (omega arith) (inl (omega arith))) in
    let after : sum_by h (range_with_len (f + n) r) ≡ sum_by g (range_with_len (f + n) r) = range_same h g (f + n) r (λ a low high. outside a (omega arith) (inr (omega arith))) in
    let none : sum_by g (range_with_len f n) ≡ 0 = range_same g (λ _. 0) f n (λ a low high. empty a low high) ∙ sum_by-none (range_with_len f n) in
    let left = in_three h f n r in
    let right = in_three g f n r in
    omega arith

-- the flow into a node grows by that on the span
pub flow_grows : (net : NetworkData) (v w : List ℕ) (f n node : ℕ) → f + n ≤ length net.arcs →
    ((a : ℕ) → a < length net.arcs → (a < f) ⊎ (f + n ≤ a) → get_or w a 0 ≡ get_or v a 0) → ((a : ℕ) → f ≤ a → a < f + n → get_or v a 0 ≡ 0) →
    flow_into net w node ≡ flow_into net v node + flow_among net w f n node
flow_grows net v w f n node within same empty =
    let r : ℕ = length net.arcs - (f + n) in
    let all : length net.arcs ≡ f + (n + r) = omega arith in
    let grown : sum_by (brought net w node) (range_with_len 0 (f + (n + r))) ≡ sum_by (brought net v node) (range_with_len 0 (f + (n + r))) + sum_by (brought net w node) (range_with_len f n) =
    span_grows (brought net v node) (brought net w node) f n r
    (λ a lt outside. ap (λ x. cond (head_of net a == node) x 0) (same a (omega arith) outside))
    (λ a low high. ap (λ x. cond (head_of net a == node) x 0) (empty a low high) ∙ either_none (head_of net a == node) 0) in
    sum_by-filter (λ a. get_or w a 0) (λ a. head_of net a == node) (arc_numbers net)
    ∙ ap (λ m. sum_by (brought net w node) (range_with_len 0 m)) all
    ∙ grown
    ∙ ap (λ m. sum_by (brought net v node) (range_with_len 0 m) + flow_among net w f n node) (sym all)
    ∙ ap (λ s. s + flow_among net w f n node) (sym (sum_by-filter (λ a. get_or v a 0) (λ a. head_of net a == node) (arc_numbers net)))

-- so does what has arrived, where that flow was added
pub arrivals_grow : (net : NetworkData) (v w arrived next : List ℕ) (f n : ℕ) → length arrived ≡ net.nodes → f + n ≤ length net.arcs →
    ((a : ℕ) → a < length net.arcs → (a < f) ⊎ (f + n ≤ a) → get_or w a 0 ≡ get_or v a 0) → ((a : ℕ) → f ≤ a → a < f + n → get_or v a 0 ≡ 0) →
    ((node : ℕ) → node < length next → get_or next node 0 ≡ get_or arrived node 0 + flow_among net w f n node) → length next ≡ length arrived →
    GrowsAsFlow net v arrived w next
arrivals_grow net v w arrived next f n long within same empty added kept node lt =
    let flow = flow_grows net v w f n node within same empty in
    let here = added node (omega arith) in
    omega arith

-- where one arc is set
pub walk_grows : (net : NetworkData) (v arrived next : List ℕ) (b units : ℕ) → length arrived ≡ net.nodes → b < length net.arcs → get_or v b 0 ≡ 0 →
    ((node : ℕ) → node < length next → get_or next node 0 ≡ get_or arrived node 0 + flow_among net (set v b units) b 1 node) → length next ≡ length arrived →
    GrowsAsFlow net v arrived (set v b units) next
walk_grows net v arrived next b units long lt none added kept =
    arrivals_grow net v (set v b units) arrived next b 1 long (omega arith)
    (λ a below outside. get_or-set_other v b a units 0 (apart a outside))
    (λ a low high. let same : b ≡ a = omega arith in subst (λ c. get_or v c 0 ≡ 0) same none)
    added kept
  where
    apart : (a : ℕ) → (a < b) ⊎ (b + 1 ≤ a) → a ≢ b
    apart a (inl before) = λ same. omega arith
    apart a (inr after) = λ same. omega arith

-- where the arcs of a node are set, which follow one another
pub wait_grows : (net : NetworkData) (v w arrived next : List ℕ) (node f n : ℕ) → length arrived ≡ net.nodes → f + n ≤ length net.arcs → ((j : ℕ) → j < n → tail_of net (f + j) ≡ node) →
    ((a : ℕ) → a < length net.arcs → tail_of net a ≡ node → get_or v a 0 ≡ 0) →
    ((a : ℕ) → a < length net.arcs → (a < f) ⊎ (f + n ≤ a) → get_or w a 0 ≡ get_or v a 0) →
    ((other : ℕ) → other < length next → get_or next other 0 ≡ get_or arrived other 0 + flow_among net w f n other) → length next ≡ length arrived →
    GrowsAsFlow net v arrived w next
wait_grows net v w arrived next node f n long within leave none same added kept =
    arrivals_grow net v w arrived next f n long within same
    (λ a low high. none a (omega arith) (let e : a ≡ f + (a - f) = omega arith in ap (tail_of net) e ∙ leave (a - f) (omega arith)))
    added kept
