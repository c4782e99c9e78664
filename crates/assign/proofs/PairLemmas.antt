-- Pairs of one destination among pairs by destination.
use Rattle.std.proofs.Common.{◌≡◌, ◌≢◌, ℕ, ◌+◌, ◌-◌, ◌<◌, ◌≤◌, ◌==◌, ◌&&◌, Bool, true, false, cond, List, length, take, get_or, refl, sym, ◌∙◌, ap, arith, add-zero, zero-add, zero, suc, inl, inr}
use Rattle.std.specs.List.{All, filter, sum_by}
use Rattle.std.proofs.lemmas.Bool.{cases_eq}
use Rattle.std.proofs.lemmas.Bool.Decides.{eqb_tells}
use Rattle.std.proofs.lemmas.List.{take_all}
use Rattle.std.proofs.lemmas.List.Sums.{sum_by_more}
use Rattle.definitions.specs.declared.limits.TheConstants.{UNIT_LIMIT}
use Rattle.definitions.proofs.Sums.{sum_by-filter}
use Rattle.demand.specs.declared.tables.Pair.{Pair}
use Rattle.demand.specs.Laws.{AreInOrder, IsPairAmong}
use Rattle.demand.specs.Pairs.{is_of, units_from_to}
use Rattle.assign.specs.Conditions.{AreOrdered, ArePairs, destination_at, no_pair, units_of_pairs}
use Rattle.assign.specs.Spans.{PartsAt}

-- the sum over those that pass, with one more
pub passed_more : {X : Type 0} (f : X → ℕ) (p : X → Bool) (xs : List X) (i : ℕ) (d : X) → i < length xs →
    sum_by f (filter p (take (i + 1) xs)) ≡ sum_by f (filter p (take i xs)) + cond (p (get_or xs i d)) (f (get_or xs i d)) 0
passed_more f p xs i d lt =
    sum_by-filter f p (take (i + 1) xs)
    ∙ sum_by_more (λ x. cond (p x) (f x) 0) xs i d lt
    ∙ ap (λ n. n + cond (p (get_or xs i d)) (f (get_or xs i d)) 0) (sym (sum_by-filter f p (take i xs)))

-- where none of the next ones passes, the sum stays
pub passed_same : {X : Type 0} (f : X → ℕ) (p : X → Bool) (xs : List X) (d : X) (j n : ℕ) → j + n ≤ length xs →
    ((i : ℕ) → j ≤ i → i < j + n → p (get_or xs i d) ≡ false) → sum_by f (filter p (take (j + n) xs)) ≡ sum_by f (filter p (take j xs))
passed_same f p xs d j zero le none = ap (λ k. sum_by f (filter p (take k xs))) (add-zero j)
passed_same f p xs d j (suc n) le none =
    let next : j + suc n ≡ j + n + 1 = omega arith in
    ap (λ k. sum_by f (filter p (take k xs))) next
    ∙ passed_more f p xs (j + n) d (omega arith)
    ∙ ap (λ b. sum_by f (filter p (take (j + n) xs)) + cond b (f (get_or xs (j + n) d)) 0) (none (j + n) (omega arith) (omega arith))
    ∙ add-zero (sum_by f (filter p (take (j + n) xs)))
    ∙ passed_same f p xs d j n (omega arith) (λ i low high. none i low (omega arith))

-- a pair to another zone is not of this one
pub not_of : (pair : Pair) (origin destination : ℕ) → pair.destination ≢ destination → is_of origin destination pair ≡ false
not_of pair origin destination other = elim (eqb_tells pair.destination destination) [
  | inl w ↦ absurd (other w.1)
  | inr w ↦ rw w.0 (neither (pair.origin == origin))
]
  where
    neither : (b : Bool) → (b && false) ≡ false
    neither true = refl
    neither false = refl

-- no pair before its span leads to a zone
pub none_before : (pairs : List Pair) (zone place node : ℕ) → PartsAt pairs zone place → units_from_to (take place pairs) node zone ≡ 0
none_before pairs zone place node parts =
    let all : 0 + place ≡ place = zero-add place in
    ap (λ k. units_from_to (take k pairs) node zone) (sym all)
    ∙ passed_same (λ pair. pair.units) (is_of node zone) pairs no_pair 0 place (rw all parts.within)
    (λ i low high. not_of (get_or pairs i no_pair) node zone (λ e. let lower = parts.before i (omega arith) in omega arith))

-- the pairs behind its span do not lead to a zone either
pub none_after : (pairs : List Pair) (zone place node : ℕ) → PartsAt pairs (zone + 1) place → units_from_to (take place pairs) node zone ≡ units_from_to pairs node zone
none_after pairs zone place node parts =
    let all : place + (length pairs - place) ≡ length pairs = let within = parts.within in omega arith in
    sym (passed_same (λ pair. pair.units) (is_of node zone) pairs no_pair place (length pairs - place) (omega arith)
    (λ i low high. not_of (get_or pairs i no_pair) node zone (λ e. let higher = parts.after i low (omega arith) in omega arith)))
    ∙ ap (λ k. units_from_to (take k pairs) node zone) all
    ∙ ap (λ some. units_from_to some node zone) (take_all (length pairs) pairs (omega arith))

-- where no pair leads from a node to a zone, no units do
pub none_of : (pairs : List Pair) (node zone : ℕ) →
    ((i : ℕ) → i < length pairs → (get_or pairs i no_pair).origin ≡ node → (get_or pairs i no_pair).destination ≡ zone → ⊥) → units_from_to pairs node zone ≡ 0
none_of pairs node zone never =
    let all : 0 + length pairs ≡ length pairs = zero-add (length pairs) in
    ap (λ some. units_from_to some node zone) (sym (take_all (length pairs) pairs (omega arith)))
    ∙ ap (λ k. units_from_to (take k pairs) node zone) (sym all)
    ∙ passed_same (λ pair. pair.units) (is_of node zone) pairs no_pair 0 (length pairs) (omega arith)
    (λ i low high. other (get_or pairs i no_pair) (never i (omega arith)))
  where
    other : (pair : Pair) → (pair.origin ≡ node → pair.destination ≡ zone → ⊥) → is_of node zone pair ≡ false
    other pair apart = elim (eqb_tells pair.origin node) [
      | inr w ↦ rw w.0 refl
      | inl w ↦ not_of pair node zone (λ e. apart w.1 e)
    ]

-- pairs in order stand by destination
pub by_destination : (pairs : List Pair) → AreInOrder pairs → AreOrdered pairs
by_destination pairs ordered place later rises inside = elim (cases_eq place later) [
  | inl e ↦ (let same : destination_at pairs place ≡ destination_at pairs later = ap (destination_at pairs) e in omega arith)
  | inr ne ↦ elim (ordered place later no_pair (omega arith) inside) [
    | inl lower ↦ omega arith
    | inr same ↦ (let e = same.0 in omega arith)
  ]
]

-- pairs of the zones of a city, in order and with few units
pub are_pairs : (zones : ℕ) (pairs : List Pair) → All (IsPairAmong zones) pairs → AreInOrder pairs → units_of_pairs pairs ≤ UNIT_LIMIT → ArePairs zones pairs
are_pairs zones pairs among ordered within = record { among = among; ordered = by_destination pairs ordered; within = within }
