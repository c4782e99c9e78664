-- Amounts and pairs in order.
use Rattle.std.proofs.Common.{◌≡◌, ℕ, ◌+◌, ◌*◌, ◌<◌, ◌≤◌, ◌⊎◌, Bool, true, false, List, [], ◌∷◌, length, get_or, refl, sym, ap, ◌∙◌, inl, inr, arith, zero, suc}
use Rattle.std.specs.Prelude.{fold, All, ◌==◌, ◌&&◌}
use Rattle.std.specs.List.{AllByRecursion}
use Rattle.std.specs.List.Sorted.{IsNonDecreasingBy}
use Rattle.std.proofs.lemmas.Bool.{cases_Bool, cases_lt, eq-eqb}
use Rattle.std.proofs.lemmas.List.Elements.{All-from_recursion, All-head, All-tail, recursion_from_All}
use Rattle.demand.specs.declared.tables.Pair.{Pair}
use Rattle.demand.specs.Joined.{Climbs, IsFrom, Rises, joined, place, with_more}
use Rattle.demand.specs.Laws.{AreInOrder, IsBefore, IsPairAmong}
use Rattle.demand.specs.Pairs.{is_of}

-- what follows of each, and what both say
pub all-weaker : {X : Type 0} (P Q : X → Type 0) → ((x : X) → P x → Q x) → (xs : List X) → AllByRecursion P xs → AllByRecursion Q xs
all-weaker P Q step [] all = tt
all-weaker P Q step (x ∷ xs) all = (step x all.0, all-weaker P Q step xs all.1)

pub all-both : {X : Type 0} (P Q R : X → Type 0) → ((x : X) → P x → Q x → R x) → (xs : List X) → AllByRecursion P xs → AllByRecursion Q xs → AllByRecursion R xs
all-both P Q R step [] a b = tt
all-both P Q R step (x ∷ xs) a b = (step x a.0 b.0, all-both P Q R step xs a.1 b.1)

-- what stands behind a later place stands behind an earlier one
pub from-from : (a b c d : ℕ) (p : Pair) → (a < c) ⊎ ((a ≡ c) × (b ≤ d)) → IsFrom c d p → IsFrom a b p
from-from a b c d p (inl h) (inl k) = inl (omega arith)
from-from a b c d p (inl h) (inr k) = inl (omega (arith, h, k.0))
from-from a b c d p (inr h) (inl k) = inl (omega (arith, h.0, k))
from-from a b c d p (inr h) (inr k) = inr (h.0 ∙ k.0, omega (arith, h.1, k.1))

-- another amount that stands at a pair or behind it stands behind it
other-from : (p t : Pair) → is_of p.origin p.destination t ≡ false → IsFrom p.destination p.origin t → IsFrom p.destination (p.origin + 1) t
other-from p t other (inl h) = inl h
other-from p t other (inr h) = elim (cases_lt p.origin t.origin) [
  | inl k ↦ inr (h.0, omega arith)
  | inr k ↦
      let origin : t.origin ≡ p.origin = omega (arith, h.1, k) in
      let same : is_of p.origin p.destination t ≡ true = rw (eq-eqb t.origin p.origin origin, eq-eqb t.destination p.destination (sym h.0)) refl in
      absurd (cc (same, other))
]

-- what holds of pairs and of one more amount, and is no matter of units
pub all-joined : (P : Pair → Type 0) → ((p : Pair) (units : ℕ) → P p → P (with_more p units)) → (ps : List Pair) (t : Pair) → AllByRecursion P ps → P t → AllByRecursion P (joined ps t)
unfolding joined
all-joined P keeps [] t all here = (here, tt)
all-joined P keeps (p ∷ []) t all here = elim (cases_Bool (is_of p.origin p.destination t)) [
  | inl h ↦ rw h (keeps p t.units all.0, tt)
  | inr h ↦ rw h (all.0, (here, tt))
]
all-joined P keeps (p ∷ q ∷ ps) t all here = (all.0, all-joined P keeps (q ∷ ps) t all.1 here)

pub rises-joined : (ps : List Pair) (t : Pair) → Rises ps → AllByRecursion (λ (p : Pair). IsFrom p.destination p.origin t) ps → Rises (joined ps t)
unfolding joined Rises
rises-joined [] t rises behind = (tt, tt)
rises-joined (p ∷ []) t rises behind = elim (cases_Bool (is_of p.origin p.destination t)) [
  | inl h ↦ rw h (tt, tt)
  | inr h ↦ rw h ((other-from p t h behind.0, tt), (tt, tt))
]
rises-joined (p ∷ q ∷ ps) t rises behind =
    let near : IsFrom p.destination (p.origin + 1) q = rises.0.0 in
    let last : IsFrom p.destination (p.origin + 1) t = from-from p.destination (p.origin + 1) q.destination q.origin t near behind.1.0 in
    (all-joined (IsFrom p.destination (p.origin + 1)) (λ r units h. h) (q ∷ ps) t rises.0 last, rises-joined (q ∷ ps) t rises.1 behind.1)

pub rises-folded : (ts ps : List Pair) → Climbs ts → Rises ps → AllByRecursion (λ (t : Pair). AllByRecursion (λ (p : Pair). IsFrom p.destination p.origin t) ps) ts → Rises (fold joined ps ts)
unfolding Climbs
rises-folded [] ps climbs rises behind = rises
rises-folded (t ∷ ts) ps climbs rises behind =
    let next = all-both (λ (s : Pair). AllByRecursion (λ (p : Pair). IsFrom p.destination p.origin s) ps) (IsFrom t.destination t.origin)
    (λ (s : Pair). AllByRecursion (λ (p : Pair). IsFrom p.destination p.origin s) (joined ps t))
    (λ s all here. all-joined (λ (p : Pair). IsFrom p.destination p.origin s) (λ r units h. h) ps t all here) ts behind.1 climbs.0 in
    rises-folded ts (joined ps t) climbs.1 (rises-joined ps t rises behind.0) next

more-among : (zones : ℕ) (p : Pair) (units : ℕ) → IsPairAmong zones p → IsPairAmong zones (with_more p units)
more-among zones p units h = record { origin = h.origin; destination = h.destination; apart = h.apart; some = let some = h.some in omega arith }

pub among-folded : (zones : ℕ) (ts ps : List Pair) → AllByRecursion (IsPairAmong zones) ts → AllByRecursion (IsPairAmong zones) ps → AllByRecursion (IsPairAmong zones) (fold joined ps ts)
among-folded zones [] ps more all = all
among-folded zones (t ∷ ts) ps more all = among-folded zones ts (joined ps t) more.1 (all-joined (IsPairAmong zones) (more-among zones) ps t all more.0)

-- the order of places is that of destinations and then of origins
place-from : (a b : Pair) → a.origin < 4096 → b.origin < 4096 → place a ≤ place b → IsFrom a.destination a.origin b
place-from a b la lb h = elim (cases_lt a.destination b.destination) [
  | inl k ↦ inl k
  | inr k ↦ inr (omega arith, omega arith)
]

pub climbs-sorted : (ts : List Pair) → AllByRecursion (λ (t : Pair). t.origin < 4096) ts → IsNonDecreasingBy place ts → Climbs ts
unfolding Climbs
climbs-sorted [] small up = tt
climbs-sorted (t ∷ ts) small up =
    let above : All (λ (s : Pair). place t ≤ place s) ts = λ k d lt. up 0 (suc k) d (omega arith) (omega arith) in
    let behind = all-both (λ (s : Pair). place t ≤ place s) (λ (s : Pair). s.origin < 4096) (IsFrom t.destination t.origin) (λ s high low. place-from t s small.0 low high) ts
    (recursion_from_All (λ (s : Pair). place t ≤ place s) ts above) small.1 in
    (behind, climbs-sorted ts small.1 (λ i j d le lt. up (suc i) (suc j) d (omega arith) (omega arith)))

pub rises-none : Rises []
unfolding Rises
rises-none = tt

before-from : (p q : Pair) → IsFrom p.destination (p.origin + 1) q → IsBefore p q
before-from p q (inl h) = inl h
before-from p q (inr h) = inr (h.0, omega (arith, h.1))

-- pairs that rise stand in order
pub order-rises : (ps : List Pair) → Rises ps → AreInOrder ps
unfolding Rises
order-rises [] rises place later d lt inside = absurd (omega (arith, inside))
order-rises (p ∷ ps) rises place zero d lt inside = absurd (omega (arith, lt))
order-rises (p ∷ ps) rises zero (suc later) d lt inside =
    let all : All (IsFrom p.destination (p.origin + 1)) ps = All-from_recursion (IsFrom p.destination (p.origin + 1)) ps rises.0 in
    before-from p (get_or ps later d) (all later d (omega (arith, inside)))
order-rises (p ∷ ps) rises (suc place) (suc later) d lt inside = order-rises ps rises.1 place later d (omega (arith, lt)) (omega (arith, inside))
