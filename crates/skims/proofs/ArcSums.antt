-- Sums over the attractive arcs of a node, term by term, and the one with the greatest value.
use Rattle.std.proofs.Common.{◌≡◌, ℕ, zero, suc, ◌+◌, ◌<◌, ◌≤◌, ◌==◌, Bool, true, false, ◌&&◌, cond, List, length, refl, sym, ◌∙◌, ap, arith, inl, inr, ◌⊎◌}
use Rattle.std.specs.List.{filter, range_with_len, sum_by}
use Rattle.std.proofs.lemmas.List.Sums.{sum_by_push}
use Rattle.std.proofs.lemmas.Bool.{cases_lt, cases_Bool, and_parts, and_from, eqb-true, eq-eqb}
use Rattle.definitions.specs.Network.{NetworkData, tail_of, arc_numbers}
use Rattle.definitions.specs.Choice.{is_attractive, attractive_arcs}
use Rattle.definitions.proofs.Sums.{range_le, range_more, range_same, sum_by-filter, sum_by-none}
use Rattle.definitions.proofs.WaitingLemmas.{attractive_spread}

-- an attractive arc of a node
pub record IsOne (net : NetworkData) (reached : List Bool) (labels : List ℕ) (node arc : ℕ) : Type 0 where
  pub there : arc < length net.arcs
  pub from : tail_of net arc ≡ node
  pub drawn : is_attractive net reached labels arc ≡ true

term_le : (here on : Bool) (x y : ℕ) → (here ≡ true → on ≡ true → x ≤ y) → cond here (cond on x 0) 0 ≤ cond here (cond on y 0) 0
term_le true true x y h = h refl refl
term_le true false x y h = omega arith
term_le false on x y h = omega arith

pub attractive_le : (net : NetworkData) (reached : List Bool) (labels : List ℕ) (node : ℕ) (f g : ℕ → ℕ) →
    ((a : ℕ) → IsOne net reached labels node a → f a ≤ g a) →
    sum_by f (attractive_arcs net reached labels node) ≤ sum_by g (attractive_arcs net reached labels node)
attractive_le net reached labels node f g h =
    rw (attractive_spread net reached labels f node, attractive_spread net reached labels g node)
    (range_le (λ a. cond (tail_of net a == node) (cond (is_attractive net reached labels a) (f a) 0) 0) (λ a. cond (tail_of net a == node) (cond (is_attractive net reached labels a) (g a) 0) 0) 0 (length net.arcs)
    (λ a low high. term_le (tail_of net a == node) (is_attractive net reached labels a) (f a) (g a)
    (λ here on. h a (record { there = omega arith; from = eqb-true (tail_of net a) node here; drawn = on }))))

term_same : (here on : Bool) (x y : ℕ) → (here ≡ true → on ≡ true → x ≡ y) → cond here (cond on x 0) 0 ≡ cond here (cond on y 0) 0
term_same true true x y h = h refl refl
term_same true false x y h = refl
term_same false on x y h = refl

pub attractive_same : (net : NetworkData) (reached : List Bool) (labels : List ℕ) (node : ℕ) (f g : ℕ → ℕ) →
    ((a : ℕ) → IsOne net reached labels node a → f a ≡ g a) →
    sum_by f (attractive_arcs net reached labels node) ≡ sum_by g (attractive_arcs net reached labels node)
attractive_same net reached labels node f g h =
    attractive_spread net reached labels f node
    ∙ range_same (λ a. cond (tail_of net a == node) (cond (is_attractive net reached labels a) (f a) 0) 0) (λ a. cond (tail_of net a == node) (cond (is_attractive net reached labels a) (g a) 0) 0) 0 (length net.arcs)
    (λ a low high. term_same (tail_of net a == node) (is_attractive net reached labels a) (f a) (g a)
    (λ here on. h a (record { there = omega arith; from = eqb-true (tail_of net a) node here; drawn = on })))
    ∙ sym (attractive_spread net reached labels g node)

-- the number below n with the greatest value of those that pass, or none that does
pub record IsMost (p : ℕ → Bool) (f : ℕ → ℕ) (n a : ℕ) : Type 0 where
  pub below : a < n
  pub passes : p a ≡ true
  pub most : (b : ℕ) → b < n → p b ≡ true → f b ≤ f a

most_below : (p : ℕ → Bool) (f : ℕ → ℕ) (n : ℕ) → ((a : ℕ) → a < n → p a ≡ false) ⊎ ((a : ℕ) × IsMost p f n a)
most_below p f zero = inl (λ a lt. absurd (omega arith))
most_below p f (suc n) = elim (cases_Bool (p n)) [
  | inr off ↦ elim (most_below p f n) [
    | inl none ↦ inl (λ a lt. elim (cases_lt a n) [ inl low ↦ none a low | inr high ↦ (let e : a ≡ n = omega arith in rw e off) ])
    | inr w ↦ inr (
      w.0,
      record {
        below = (let l = w.1.below in omega arith);
        passes = w.1.passes;
        most = λ b lt on. elim (cases_lt b n) [ inl low ↦ w.1.most b low on | inr high ↦ absurd (let e : b ≡ n = omega arith in clash (p b) on (ap p e ∙ off)) ];
      },
    )
  ]
  | inl on ↦ elim (most_below p f n) [
    | inl none ↦ inr (
      n,
      record {
        below = omega arith;
        passes = on;
        most = λ b lt yes. elim (cases_lt b n) [ inl low ↦ absurd (clash (p b) yes (none b low)) | inr high ↦ (let e : b ≡ n = omega arith in rw e (omega arith)) ];
      },
    )
    | inr w ↦ elim (cases_lt (f w.0) (f n)) [
      | inl less ↦ inr (
        n,
        record {
          below = omega arith;
          passes = on;
          most = λ b lt yes. elim (cases_lt b n) [ inl low ↦ (let m = w.1.most b low yes in omega arith) | inr high ↦ (let e : b ≡ n = omega arith in rw e (omega arith)) ];
        },
      )
      | inr more ↦ inr (
        w.0,
        record {
          below = (let l = w.1.below in omega arith);
          passes = w.1.passes;
          most = λ b lt yes. elim (cases_lt b n) [ inl low ↦ w.1.most b low yes | inr high ↦ (let e : b ≡ n = omega arith in rw e more) ];
        },
      )
    ]
  ]
]
  where
    clash : (b : Bool) → b ≡ true → b ≡ false → ⊥
    clash true h z = absurd cc
    clash false h z = absurd cc

-- the attractive arc of a node with the greatest value, where some have weight
pub record IsGreatestOne (net : NetworkData) (reached : List Bool) (labels : List ℕ) (node : ℕ) (f : ℕ → ℕ) (arc : ℕ) : Type 0 where
  pub one : IsOne net reached labels node arc
  pub most : (a : ℕ) → IsOne net reached labels node a → f a ≤ f arc

none_term : (here on : Bool) (x : ℕ) → (here && on) ≡ false → cond here (cond on x 0) 0 ≡ 0
none_term true true x h = absurd cc
none_term true false x h = refl
none_term false on x h = refl

pub greatest_one : (net : NetworkData) (reached : List Bool) (labels : List ℕ) (node : ℕ) (f weight : ℕ → ℕ) →
    0 < sum_by weight (attractive_arcs net reached labels node) → (arc : ℕ) × IsGreatestOne net reached labels node f arc
greatest_one net reached labels node f weight some =
    let p : ℕ → Bool = λ a. (tail_of net a == node) && is_attractive net reached labels a in
    elim (most_below p f (length net.arcs)) [
      | inr w ↦ (let parts = and_parts (tail_of net w.0 == node) (is_attractive net reached labels w.0) w.1.passes in (
        w.0,
        record {
          one = record { there = w.1.below; from = eqb-true (tail_of net w.0) node parts.0; drawn = parts.1 };
          most = λ a is. w.1.most a is.there (and_from (tail_of net a == node) (is_attractive net reached labels a) (eq-eqb (tail_of net a) node is.from) is.drawn);
        },
      ))
      | inl none ↦ absurd (
          let nothing : sum_by weight (attractive_arcs net reached labels node) ≡ 0 =
          attractive_spread net reached labels weight node
          ∙ range_same (λ a. cond (tail_of net a == node) (cond (is_attractive net reached labels a) (weight a) 0) 0) (λ _. 0) 0 (length net.arcs)
          (λ a low high. none_term (tail_of net a == node) (is_attractive net reached labels a) (weight a) (none a (omega arith)))
          ∙ sum_by-none (arc_numbers net) in
          omega arith)
    ]

-- one more term of a sum over the numbers of a range that pass
pub sum_one_more : (f : ℕ → ℕ) (p : ℕ → Bool) (s k : ℕ) →
    sum_by f (filter p (range_with_len s (k + 1))) ≡ sum_by f (filter p (range_with_len s k)) + cond (p (s + k)) (f (s + k)) 0
sum_one_more f p s k =
    sum_by-filter f p (range_with_len s (k + 1))
    ∙ ap (sum_by (λ x. cond (p x) (f x) 0)) (range_more s k)
    ∙ sum_by_push (λ x. cond (p x) (f x) 0) (range_with_len s k) (s + k)
    ∙ ap (λ t. t + cond (p (s + k)) (f (s + k)) 0) (sym (sum_by-filter f p (range_with_len s k)))
