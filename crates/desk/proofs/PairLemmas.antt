-- Pairs of an origin and another zone, one after the other.
use Rattle.std.proofs.Common.{◌≡◌, ℕ, zero, suc, ◌+◌, ◌-◌, ◌*◌, ◌==◌, ◌<◌, ◌≤◌, [], ◌∷◌, ◌++◌, filter, length, not, refl, ap, sym, ◌∙◌, add-one, arith, cond, length-append}
use Rattle.std.proofs.lemmas.Bool.{eq-eqb, ne_eqb}
use Rattle.std.proofs.lemmas.List.{append-nil}
use Rattle.std.proofs.lemmas.List.Elements.{filter-append}
use Rattle.std.specs.List.{range_with_len}
use Rattle.desk.specs.declared.gen_words.GenWords.{GenWords}
use Rattle.desk.specs.Draws.{draw}
use Rattle.desk.specs.GeneratedTables.{draws_before_pair, draws_before_zone, others, pairs_before}
use Rattle.desk.proofs.RowLemmas.{numbers_more}

-- the origin is no other zone
pub others_skip : (origin n : ℕ) → n ≡ origin → others origin (n + 1) ≡ others origin n
others_skip origin n same =
    ap (filter (λ zone. not (zone == origin))) (numbers_more n)
    ∙ filter-append (λ zone. not (zone == origin)) (range_with_len 0 n) (n ∷ [])
    ∙ ap (λ test. others origin n ++ cond (not test) (n ∷ []) []) (eq-eqb n origin same)
    ∙ append-nil (others origin n)

-- each zone but the origin is another one
pub others_take : (origin n : ℕ) → (n ≡ origin → ⊥) → others origin (n + 1) ≡ others origin n ++ n ∷ []
others_take origin n other =
    ap (filter (λ zone. not (zone == origin))) (numbers_more n)
    ∙ filter-append (λ zone. not (zone == origin)) (range_with_len 0 n) (n ∷ [])
    ∙ ap (λ test. others origin n ++ cond (not test) (n ∷ []) []) (ne_eqb n origin other)

-- one more of the others
pub others_take_count : (origin n : ℕ) → (n ≡ origin → ⊥) → length (others origin (n + 1)) ≡ length (others origin n) + 1
others_take_count origin n other = ap length (others_take origin n other) ∙ length-append (others origin n) (n ∷ [])

-- all zones before the origin are others
pub others_before : (origin n : ℕ) → n ≤ origin → length (others origin n) ≡ n
others_before origin zero within = refl
others_before origin (suc n) within =
    let e : suc n ≡ n + 1 = omega arith in
    let other : n ≡ origin → ⊥ = λ same. omega arith in
    ap (λ m. length (others origin m)) e ∙ others_take_count origin n other ∙ ap (λ m. m + 1) (others_before origin n (omega arith)) ∙ sym e

-- and all behind it
pub others_behind : (origin k : ℕ) → length (others origin (origin + 1 + k)) ≡ origin + k
others_behind origin zero =
    let e : origin + 1 + 0 ≡ origin + 1 = omega arith in
    let f : origin ≡ origin + 0 = omega arith in
    ap (λ m. length (others origin m)) e ∙ ap length (others_skip origin origin refl) ∙ others_before origin origin (omega arith) ∙ f
others_behind origin (suc k) =
    let e : origin + 1 + suc k ≡ origin + 1 + k + 1 = omega arith in
    let other : origin + 1 + k ≡ origin → ⊥ = λ same. omega arith in
    let f : origin + k + 1 ≡ origin + suc k = omega arith in
    ap (λ m. length (others origin m)) e ∙ others_take_count origin (origin + 1 + k) other ∙ ap (λ m. m + 1) (others_behind origin k) ∙ f

-- of all zones one is the origin
pub all_others : (origin zones : ℕ) → origin < zones → length (others origin zones) ≡ zones - 1
all_others origin zones within =
    let e : zones ≡ origin + 1 + (zones - (origin + 1)) = omega arith in
    let f : origin + (zones - (origin + 1)) ≡ zones - 1 = omega arith in
    ap (λ m. length (others origin m)) e ∙ others_behind origin (zones - (origin + 1)) ∙ f

-- the pairs of an origin stand before those of the next one
pub next_origin : (zones origin : ℕ) → origin < zones → pairs_before zones origin zones ≡ pairs_before zones (origin + 1) 0
next_origin zones origin within = ap (λ m. origin * (zones - 1) + m) (all_others origin zones within) ∙ next_product origin (zones - 1)
  where
    next_product : (a b : ℕ) → a * b + b ≡ (a + 1) * b + 0
    next_product a b = omega arith

-- behind a pair to another zone stands the next one
pub next_pair : (zones origin n : ℕ) → (n ≡ origin → ⊥) → pairs_before zones origin n + 1 ≡ pairs_before zones origin (n + 1)
next_pair zones origin n other =
    let e : pairs_before zones origin n + 1 ≡ origin * (zones - 1) + (length (others origin n) + 1) = omega arith in
    e ∙ ap (λ m. origin * (zones - 1) + m) (sym (others_take_count origin n other))

-- the draws before the first pair
pub first_pair : (words : GenWords) → draws_before_pair words 0 ≡ draws_before_zone words words.zones
unfolding draws_before_pair
first_pair words = refl

-- a pair with trips takes two draws
pub with_trips : (words : GenWords) (n : ℕ) → draw words.seed (draws_before_pair words n) 5 ≡ 0 → draws_before_pair words n + 1 + 1 ≡ draws_before_pair words (n + 1)
unfolding draws_before_pair
with_trips words n some =
    let e : draws_before_pair words n + 1 + 1 ≡ draws_before_pair words n + 2 = omega arith in
    e
    ∙ ap (λ test. draws_before_pair words n + cond test 2 1) (sym (eq-eqb (draw words.seed (draws_before_pair words n) 5) 0 some))
    ∙ ap (draws_before_pair words) (sym (add-one n))

-- and one without takes one
pub without_trips : (words : GenWords) (n : ℕ) → (draw words.seed (draws_before_pair words n) 5 ≡ 0 → ⊥) → draws_before_pair words n + 1 ≡ draws_before_pair words (n + 1)
unfolding draws_before_pair
without_trips words n none =
    ap (λ test. draws_before_pair words n + cond test 2 1) (sym (ne_eqb (draw words.seed (draws_before_pair words n) 5) 0 none))
    ∙ ap (draws_before_pair words) (sym (add-one n))
