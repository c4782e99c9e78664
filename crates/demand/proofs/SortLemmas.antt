-- Sorted amounts, added up one after the other.
use Rattle.std.proofs.Common.{◌≡◌, ℕ, zero, suc, ◌+◌, ◌-◌, ◌<◌, ◌≤◌, ◌^◌, Bool, true, false, List, [], ◌∷◌, ◌++◌, length, take, get_or, refl, sym, ap, ◌∙◌, inl, inr, arith}
use Rattle.std.specs.Prelude.{All, fold, slice_set, sum_by}
use Rattle.std.specs.List.{AllByRecursion}
use Rattle.std.specs.List.Sorted.{IsNonDecreasingBy, IsPermutation}
use Rattle.std.proofs.lemmas.Bool.{cases_Bool}
use Rattle.std.proofs.lemmas.List.{get_or_default}
use Rattle.std.proofs.lemmas.List.Elements.{All-from_recursion, recursion_from_All}
use Rattle.std.proofs.lemmas.List.Sorted.{All-permutation, sum_by-IsPermutation}
use Rattle.std.proofs.lemmas.List.Sums.{fold_more, sum_by-take-le, sum_by_more}
use Rattle.demand.specs.declared.tables.Pair.{Pair}
use Rattle.demand.specs.Joined.{IsFrom, Rises, joined, place, with_more}
use Rattle.demand.specs.Laws.{AreInOrder, IsPairAmong}
use Rattle.demand.specs.Pairs.{is_of, pairs_of, units_from_to}
use Rattle.demand.proofs.OrderLemmas.{all-weaker, among-folded, climbs-sorted, order-rises, rises-folded, rises-none}
use Rattle.demand.proofs.PairLemmas.{pairs-are}
use Rattle.demand.proofs.UnitLemmas.{total, total-folded, units-folded, units-moved}

-- sorted amounts, added up, rise
rises-sorted : (sorted : List Pair) → AllByRecursion (λ (t : Pair). t.origin < 4096) sorted → IsNonDecreasingBy place sorted → Rises (fold joined [] sorted)
rises-sorted sorted small up =
    let none = all-weaker (λ (t : Pair). t.origin < 4096) (λ (t : Pair). AllByRecursion (λ (p : Pair). IsFrom p.destination p.origin t) []) (λ t h. tt) sorted small in
    rises-folded sorted [] (climbs-sorted sorted small up) rises-none none

-- sorted amounts, added up, stand in order
pub order-sorted : (amounts sorted pairs : List Pair) → All (λ (t : Pair). t.origin < 4096) amounts → IsPermutation amounts sorted → IsNonDecreasingBy place sorted
    → pairs ≡ fold joined [] sorted → AreInOrder pairs
order-sorted amounts sorted pairs all moved up is =
    let small = recursion_from_All (λ (t : Pair). t.origin < 4096) sorted (All-permutation (λ (t : Pair). t.origin < 4096) amounts sorted moved all) in
    rw is (order-rises (fold joined [] sorted) (rises-sorted sorted small up))

-- amounts of so few zones have origins within the limit
pub origins-few : (zones : ℕ) (amounts : List Pair) → zones ≤ 4096 → All (IsPairAmong zones) amounts → All (λ (t : Pair). t.origin < 4096) amounts
origins-few zones amounts few all = λ k d lt. let here = all k d lt in let low = here.origin in omega (arith, low, few)

units-whole : (amounts sorted : List Pair) (o d : ℕ) → IsPermutation amounts sorted → units_from_to amounts o d ≡ units_from_to (fold joined [] sorted) o d
units-whole amounts sorted o d moved =
    let all = units-folded sorted [] o d in
    let same = units-moved amounts sorted o d moved in
    omega (arith, all, same)

-- sorted amounts of so many zones, added up, are the pairs of the definition
pub pairs-sorted : (zones : ℕ) (amounts sorted pairs : List Pair) → zones ≤ 4096 → All (IsPairAmong zones) amounts → IsPermutation amounts sorted → IsNonDecreasingBy place sorted
    → pairs ≡ fold joined [] sorted → pairs ≡ pairs_of zones amounts
pairs-sorted zones amounts sorted pairs few all moved up is =
    let among = recursion_from_All (IsPairAmong zones) sorted (All-permutation (IsPairAmong zones) amounts sorted moved all) in
    let small = all-weaker (IsPairAmong zones) (λ (t : Pair). t.origin < 4096) (λ t h. let low = h.origin in omega (arith, low, few)) sorted among in
    let rises = rises-sorted sorted small up in
    let units : (o d : ℕ) → units_from_to amounts o d ≡ units_from_to (fold joined [] sorted) o d = λ o d. units-whole amounts sorted o d moved in
    is ∙ pairs-are zones amounts (fold joined [] sorted) rises (among-folded zones sorted [] among tt) units

pub among-sorted : (zones : ℕ) (amounts sorted pairs : List Pair) → All (IsPairAmong zones) amounts → IsPermutation amounts sorted → pairs ≡ fold joined [] sorted → All (IsPairAmong zones) pairs
among-sorted zones amounts sorted pairs all moved is =
    let among = recursion_from_All (IsPairAmong zones) sorted (All-permutation (IsPairAmong zones) amounts sorted moved all) in
    rw is (All-from_recursion (IsPairAmong zones) (fold joined [] sorted) (among-folded zones sorted [] among tt))

pub total-sorted : (amounts sorted pairs : List Pair) → IsPermutation amounts sorted → pairs ≡ fold joined [] sorted → total pairs ≡ total amounts
total-sorted amounts sorted pairs moved is =
    let all = total-folded sorted [] in
    let same = sum_by-IsPermutation (λ (pair : Pair). pair.units) amounts sorted moved in
    ap total is ∙ omega (arith, all, same)

-- there is room for the units of one more amount
pub join-room : (amounts pairs : List Pair) (i : ℕ) (d : Pair) → i < length amounts → pairs ≡ fold joined [] (take i amounts) → total amounts ≤ 1000000000000000
    → total pairs + (get_or amounts i d).units < 2 ^ 64
join-room amounts pairs i d lt is most =
    let whole : total pairs ≡ total (fold joined [] (take i amounts)) = ap total is in
    let so_far = total-folded (take i amounts) [] in
    let more = sum_by_more (λ (pair : Pair). pair.units) amounts i d lt in
    let part = sum_by-take-le (λ (pair : Pair). pair.units) amounts (i + 1) in
    omega (arith, whole, so_far, more, part, most)

-- an amount of the zones of the last pair
pub joined-last : (ps : List Pair) (t : Pair) (i : ℕ) (d : Pair) → i + 1 ≡ length ps → is_of (get_or ps i d).origin (get_or ps i d).destination t ≡ true
    → slice_set ps i (with_more (get_or ps i d) t.units) ≡ joined ps t
unfolding joined
joined-last [] t i d size same = absurd (omega arith)
joined-last (p ∷ []) t zero d size same = rw same refl
joined-last (p ∷ []) t (suc i) d size same = absurd (omega arith)
joined-last (p ∷ q ∷ ps) t zero d size same = absurd (omega arith)
joined-last (p ∷ q ∷ ps) t (suc i) d size same = ap (λ (rest : List Pair). p ∷ rest) (joined-last (q ∷ ps) t i d (omega arith) same)

pub joined-first : (ps : List Pair) (t : Pair) → length ps ≡ 0 → ps ++ t ∷ [] ≡ joined ps t
unfolding joined
joined-first [] t size = refl
joined-first (p ∷ ps) t size = absurd (omega arith)

pub joined-other : (ps : List Pair) (t : Pair) (i : ℕ) (d : Pair) → i + 1 ≡ length ps → is_of (get_or ps i d).origin (get_or ps i d).destination t ≡ false → ps ++ t ∷ [] ≡ joined ps t
unfolding joined
joined-other [] t i d size other = absurd (omega arith)
joined-other (p ∷ []) t zero d size other = rw other refl
joined-other (p ∷ []) t (suc i) d size other = absurd (omega arith)
joined-other (p ∷ q ∷ ps) t zero d size other = absurd (omega arith)
joined-other (p ∷ q ∷ ps) t (suc i) d size other = ap (λ (rest : List Pair). p ∷ rest) (joined-other (q ∷ ps) t i d (omega arith) other)

-- the same, by what the code reads
pub join-same : (ps : List Pair) (t : Pair) (i n : ℕ) (p q : Pair) → n ≡ length ps → 0 < n → i ≡ n - 1 → p ≡ get_or ps i p → q ≡ get_or ps i q → is_of p.origin p.destination t ≡ true
    → slice_set ps i (with_more q t.units) ≡ joined ps t
join-same ps t i n p q size some at a b same =
    let lt : i < length ps = omega (arith, size, some, at) in
    let here : q ≡ get_or ps i p = b ∙ get_or_default ps i q p lt in
    let test : is_of (get_or ps i p).origin (get_or ps i p).destination t ≡ true = ap (λ (r : Pair). is_of r.origin r.destination t) (sym a) ∙ same in
    ap (λ (r : Pair). slice_set ps i (with_more r t.units)) here ∙ joined-last ps t i p (omega (arith, size, some, at)) test

pub join-other : (ps : List Pair) (t : Pair) (i n : ℕ) (p : Pair) (next : List Pair) → n ≡ length ps → 0 < n → i ≡ n - 1 → p ≡ get_or ps i p → is_of p.origin p.destination t ≡ false → next ≡ ps ++ t ∷ []
    → next ≡ joined ps t
join-other ps t i n p next size some at a other now =
    let test : is_of (get_or ps i p).origin (get_or ps i p).destination t ≡ false = ap (λ (r : Pair). is_of r.origin r.destination t) (sym a) ∙ other in
    now ∙ joined-other ps t i p (omega (arith, size, some, at)) test
