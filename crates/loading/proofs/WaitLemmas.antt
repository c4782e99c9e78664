-- The least wait over one more arc, and over the arcs of a node.
use Rattle.std.proofs.Common.{◌≡◌, ℕ, ◌+◌, ◌-◌, ◌*◌, ◌<◌, ◌≤◌, max, Bool, true, List, length, ◌∙◌, ap, arith, inl, inr, subst, get_or}
use Rattle.std.proofs.lemmas.Bool.{cases_lt}
use Rattle.std.proofs.Math.Nat.{mul-le-mul_left}
use Rattle.definitions.specs.Network.{NetworkData, tail_of, weight_of, is_boarding}
use Rattle.definitions.specs.Volumes.{IsLongEnough}

-- the longer of two waits is long enough for what both are
pub enough_more : (b : ℕ → Bool) (l f : ℕ → ℕ) (n wait one new : ℕ) → new ≡ max wait one →
    ((j : ℕ) → j < n → b j ≡ true → l j ≤ f j * wait) → (b n ≡ true → l n ≤ f n * one) → (j : ℕ) → j < n + 1 → b j ≡ true → l j ≤ f j * new
enough_more b l f n wait one new e before here j lt boards = elim (cases_lt j n) [
  | inl less ↦ (let old = before j less boards in let more : f j * wait ≤ f j * new = mul-le-mul_left (f j) (omega arith) in omega arith)
  | inr ge ↦ (let same : n ≡ j = omega arith in
      let at : l n ≤ f n * one = here (ap b same ∙ boards) in
      let more : f n * one ≤ f n * new = mul-le-mul_left (f n) (omega arith) in
      subst (λ i. l i ≤ f i * new) same (omega arith))
]

-- and no shorter one is
pub least_more : (b : ℕ → Bool) (l f : ℕ → ℕ) (n wait one new : ℕ) → new ≡ max wait one →
    ((w : ℕ) → ((j : ℕ) → j < n → b j ≡ true → l j ≤ f j * w) → wait ≤ w) → ((w : ℕ) → (b n ≡ true → l n ≤ f n * w) → one ≤ w) →
    (w : ℕ) → ((j : ℕ) → j < n + 1 → b j ≡ true → l j ≤ f j * w) → new ≤ w
least_more b l f n wait one new e before here w all =
    let old = before w (λ j lt boards. all j (omega arith) boards) in
    let last = here w (λ boards. all n (omega arith) boards) in
    omega arith

-- what is said of the places of a span is said of the arcs of a node
pub enough_at_node : (net : NetworkData) (volumes : List ℕ) (node f n wait : ℕ) → ((a : ℕ) → a < length net.arcs → tail_of net a ≡ node → (f ≤ a) × (a < f + n)) →
    ((j : ℕ) → j < n → is_boarding net (f + j) ≡ true → net.k * get_or volumes (f + j) 0 ≤ weight_of net (f + j) * wait) → IsLongEnough net volumes node wait
enough_at_node net volumes node f n wait only h = λ a lt from boards.
    let at = only a lt from in
    let low = at.0 in
    let high = at.1 in
    let e : f + (a - f) ≡ a = omega arith in
    subst (λ b. net.k * get_or volumes b 0 ≤ weight_of net b * wait) e (h (a - f) (omega arith) (ap (is_boarding net) e ∙ boards))

pub enough_at_span : (net : NetworkData) (volumes : List ℕ) (node f n wait : ℕ) → f + n ≤ length net.arcs → ((j : ℕ) → j < n → tail_of net (f + j) ≡ node) → IsLongEnough net volumes node wait →
    (j : ℕ) → j < n → is_boarding net (f + j) ≡ true → net.k * get_or volumes (f + j) 0 ≤ weight_of net (f + j) * wait
enough_at_span net volumes node f n wait within inside h j lt boards = h (f + j) (omega arith) (inside j lt) boards
