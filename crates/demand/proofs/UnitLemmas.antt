-- Units of pairs, in lists of amounts.
use Rattle.std.proofs.Common.{◌≡◌, ℕ, ◌+◌, ◌<◌, ◌≤◌, Bool, true, false, List, [], ◌∷◌, ◌++◌, cond, refl, sym, ap, ◌∙◌, inl, inr, arith}
use Rattle.std.specs.Prelude.{filter, fold, sum_by, ◌&&◌, ◌==◌}
use Rattle.std.specs.List.Sorted.{IsPermutation}
use Rattle.std.proofs.lemmas.Bool.{cases_Bool, eqb-true}
use Rattle.std.proofs.lemmas.List.Elements.{filter-append}
use Rattle.std.proofs.lemmas.List.Sorted.{sum_by-IsPermutation}
use Rattle.std.proofs.lemmas.List.Sums.{sum_by-append, sum_by-cons}
use Rattle.demand.specs.declared.tables.Pair.{Pair}
use Rattle.demand.specs.Joined.{joined, with_more}
use Rattle.demand.specs.Pairs.{is_of, units_from_to}

-- a sum over a filter is a sum with noughts
pub sum-kept : {X : Type 0} (f : X → ℕ) (p : X → Bool) (xs : List X) → sum_by f (filter p xs) ≡ sum_by (λ x. cond (p x) (f x) 0) xs
sum-kept f p [] = refl
sum-kept {X} f p (x ∷ xs) =
    let later = sum-kept f p xs in
    let right : sum_by (λ (y : X). cond (p y) (f y) 0) (x ∷ xs) ≡ cond (p x) (f x) 0 + sum_by (λ (y : X). cond (p y) (f y) 0) xs = sum_by-cons (λ (y : X). cond (p y) (f y) 0) x xs in
    elim (cases_Bool (p x)) [
      | inl h ↦
          let left : sum_by f (filter p (x ∷ xs)) ≡ f x + sum_by f (filter p xs) = rw h (sum_by-cons f x (filter p xs)) in
          let here : cond (p x) (f x) 0 ≡ f x = rw h refl in
          left ∙ ap (λ (n : ℕ). f x + n) later ∙ ap (λ (n : ℕ). n + sum_by (λ (y : X). cond (p y) (f y) 0) xs) (sym here) ∙ sym right
      | inr h ↦
          let left : sum_by f (filter p (x ∷ xs)) ≡ sum_by f (filter p xs) = rw h refl in
          let here : cond (p x) (f x) 0 ≡ 0 = rw h refl in
          left ∙ later ∙ omega (arith, right, here)
    ]

-- the units of one amount, where it is of these zones
abbrev pub share : ℕ → ℕ → Pair → ℕ
share origin destination pair = cond (is_of origin destination pair) pair.units 0

pub units-cons : (p : Pair) (ps : List Pair) (o d : ℕ) → units_from_to (p ∷ ps) o d ≡ share o d p + units_from_to ps o d
units-cons p ps o d = elim (cases_Bool (is_of o d p)) [
  | inl h ↦ rw h (sum_by-cons (λ (pair : Pair). pair.units) p (filter (is_of o d) ps))
  | inr h ↦ rw h (omega arith)
]

pub units-moved : (xs ys : List Pair) (o d : ℕ) → IsPermutation xs ys → units_from_to ys o d ≡ units_from_to xs o d
units-moved xs ys o d moved =
    sum-kept (λ (pair : Pair). pair.units) (is_of o d) ys ∙ sum_by-IsPermutation (share o d) xs ys moved ∙ sym (sum-kept (λ (pair : Pair). pair.units) (is_of o d) xs)

-- both parts of a test
pub both-true : (a b : Bool) → (a && b) ≡ true → (a ≡ true) × (b ≡ true)
both-true true b h = (refl, h)
both-true false b h = absurd (cc h)

-- two amounts of the same zones count for the same zones
same-share : (p t : Pair) (o d : ℕ) → is_of p.origin p.destination t ≡ true → share o d (with_more p t.units) ≡ share o d p + share o d t
same-share p t o d same =
    let parts = both-true (t.origin == p.origin) (t.destination == p.destination) same in
    let origin : t.origin ≡ p.origin = eqb-true t.origin p.origin parts.0 in
    let destination : t.destination ≡ p.destination = eqb-true t.destination p.destination parts.1 in
    let test : is_of o d t ≡ is_of o d p = rw (origin, destination) refl in
    elim (cases_Bool (is_of o d p)) [
      | inl h ↦ rw (test, h) refl
      | inr h ↦ rw (test, h) refl
    ]

pub units-joined : (ps : List Pair) (t : Pair) (o d : ℕ) → units_from_to (joined ps t) o d ≡ units_from_to ps o d + share o d t
unfolding joined
units-joined [] t o d = units-cons t [] o d ∙ omega arith
units-joined (p ∷ []) t o d = elim (cases_Bool (is_of p.origin p.destination t)) [
  | inl h ↦
      let left : units_from_to (joined (p ∷ []) t) o d ≡ units_from_to (with_more p t.units ∷ []) o d = rw h refl in
      let one = units-cons (with_more p t.units) [] o d in
      let before = units-cons p [] o d in
      let added = same-share p t o d h in
      left ∙ one ∙ omega (arith, before, added)
  | inr h ↦
      let left : units_from_to (joined (p ∷ []) t) o d ≡ units_from_to (p ∷ t ∷ []) o d = rw h refl in
      let one = units-cons p (t ∷ []) o d in
      let two = units-cons t [] o d in
      let before = units-cons p [] o d in
      left ∙ omega (arith, one, two, before)
]
units-joined (p ∷ q ∷ ps) t o d =
    let later = units-joined (q ∷ ps) t o d in
    let one = units-cons p (joined (q ∷ ps) t) o d in
    let before = units-cons p (q ∷ ps) o d in
    omega (arith, later, one, before)

pub units-folded : (ts ps : List Pair) (o d : ℕ) → units_from_to (fold joined ps ts) o d ≡ units_from_to ps o d + units_from_to ts o d
units-folded [] ps o d = omega arith
units-folded (t ∷ ts) ps o d =
    let later = units-folded ts (joined ps t) o d in
    let here = units-joined ps t o d in
    let parts = units-cons t ts o d in
    later ∙ omega (arith, here, parts)

-- the units of all amounts
abbrev pub total : List Pair → ℕ
total ps = sum_by (λ (pair : Pair). pair.units) ps

pub total-joined : (ps : List Pair) (t : Pair) → total (joined ps t) ≡ total ps + t.units
unfolding joined
total-joined [] t = refl
total-joined (p ∷ []) t = elim (cases_Bool (is_of p.origin p.destination t)) [
  | inl h ↦ rw h (omega arith)
  | inr h ↦ rw h (omega arith)
]
total-joined (p ∷ q ∷ ps) t =
    let later = total-joined (q ∷ ps) t in
    let one = sum_by-cons (λ (pair : Pair). pair.units) p (joined (q ∷ ps) t) in
    let before = sum_by-cons (λ (pair : Pair). pair.units) p (q ∷ ps) in
    one ∙ omega (arith, later, before)

pub total-folded : (ts ps : List Pair) → total (fold joined ps ts) ≡ total ps + total ts
total-folded [] ps = omega arith
total-folded (t ∷ ts) ps =
    let later = total-folded ts (joined ps t) in
    let here = total-joined ps t in
    let parts = sum_by-cons (λ (pair : Pair). pair.units) t ts in
    later ∙ omega (arith, here, parts)
