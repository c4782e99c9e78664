-- A split gives out its units, each share within one unit of the even one.
use Rattle.std.proofs.Common.{◌≡◌, ℕ, zero, suc, ◌+◌, ◌*◌, ◌/◌, ◌%◌, ◌<◌, ◌≤◌, ◌==◌, Bool, true, false, cond, ◌&&◌, ◌||◌, List, [], ◌∷◌, length, refl, ◌∙◌, ap, arith, inl, inr}
use Rattle.std.specs.Bool.{nat_lt}
use Rattle.std.specs.List.{count_by, sum_by}
use Rattle.std.proofs.lemmas.List.Sums.{sum_by-cons, count_by-le-length, sum_by-le-sum_by}
use Rattle.std.proofs.lemmas.Bool.Decides.{nat_tests}
use Rattle.std.proofs.lemmas.Bool.{cases_lt, lt-ltb, le-ltb}
use Rattle.std.proofs.lemmas.Nat.{div-add-mod', mod_below}
use Rattle.std.proofs.Math.Nat.{mul-le-mul_left}
use Rattle.definitions.specs.SplitLaws.{IsNearEven}
use Rattle.definitions.specs.Split.{whole_share, remainder, units_left, comes_before, count_before, share}
use Rattle.definitions.proofs.Sums.{sum_by-add, sum_by-scale, sum_by-same}
use Rattle.definitions.proofs.RankLemmas.{IsRising, IsOrder, ranked, count_le}

never_both : (r s a b : ℕ) → (nat_lt s r || (r == s && nat_lt a b)) ≡ true → (nat_lt r s || (s == r && nat_lt b a)) ≡ false
never_both r s a b h = grind (arith, nat_tests)

one_of : (r s a b : ℕ) → a < b → (nat_lt s r || (r == s && nat_lt a b)) ≡ false → (nat_lt r s || (s == r && nat_lt b a)) ≡ true
one_of r s a b lt h = grind (arith, nat_tests)

chains : (r s t a b c : ℕ) → (nat_lt s r || (r == s && nat_lt a b)) ≡ true → (nat_lt t s || (s == t && nat_lt b c)) ≡ true → (nat_lt t r || (r == t && nat_lt a c)) ≡ true
chains r s t a b c h k = grind (arith, nat_tests)

pub by_remainder : (rest : ℕ → ℕ) → IsOrder (comes_before rest)
by_remainder rest = record {
  never_both = λ a b. never_both (rest a) (rest b) a b;
  one_of = λ a b. one_of (rest a) (rest b) a b;
  chains = λ a b c. chains (rest a) (rest b) (rest c) a b c;
}

-- ---- what the whole shares leave

-- the whole shares and the remainders make the units
made_up : (units : ℕ) (weight : ℕ → ℕ) (arcs : List ℕ) →
    sum_by weight arcs * sum_by (whole_share units weight arcs) arcs + sum_by (remainder units weight arcs) arcs ≡ units * sum_by weight arcs
made_up units weight arcs =
    let all : ℕ = sum_by weight arcs in
    rw (
      sum_by-scale all (whole_share units weight arcs) arcs,
      ← sum_by-add (λ a. all * whole_share units weight arcs a) (remainder units weight arcs) arcs,
      sum_by-scale units weight arcs,
    ) (sum_by-same (λ a. all * whole_share units weight arcs a + remainder units weight arcs a) (λ a. units * weight a) arcs
    (λ a. let e = div-add-mod' (units * weight a) all in omega arith))

-- the whole shares are no more than the units
pub whole_within : (units : ℕ) (weight : ℕ → ℕ) (arcs : List ℕ) → 0 < sum_by weight arcs → sum_by (whole_share units weight arcs) arcs ≤ units
whole_within units weight arcs some = elim (cases_lt units (sum_by (whole_share units weight arcs) arcs)) [
  | inl over ↦ absurd (
      let e = made_up units weight arcs in
      let more : sum_by weight arcs * (units + 1) ≤ sum_by weight arcs * sum_by (whole_share units weight arcs) arcs = mul-le-mul_left (sum_by weight arcs) (let o : units + 1 ≤ sum_by (whole_share units weight arcs) arcs = omega arith in o) in
      omega arith)
  | inr under ↦ under
]

-- the units left over all, times the weights' sum, are the remainders
left_over : (units : ℕ) (weight : ℕ → ℕ) (arcs : List ℕ) → 0 < sum_by weight arcs →
    sum_by weight arcs * units_left units weight arcs ≡ sum_by (remainder units weight arcs) arcs
left_over units weight arcs some =
    let e = made_up units weight arcs in
    let whole : ℕ = sum_by (whole_share units weight arcs) arcs in
    let within : whole ≤ units = whole_within units weight arcs some in
    let parts : units ≡ whole + units_left units weight arcs = omega arith in
    let times : sum_by weight arcs * units ≡ sum_by weight arcs * (whole + units_left units weight arcs) = ap (λ n. sum_by weight arcs * n) parts in
    omega arith

-- remainders below a number sum to at most that number for each that is above 0
at_most_each : (rest : ℕ → ℕ) (all : ℕ) (arcs : List ℕ) → ((a : ℕ) → rest a < all) → sum_by rest arcs ≤ all * count_by (λ a. nat_lt 0 (rest a)) arcs
at_most_each rest all arcs below = rw (sum_by-scale all (λ a. cond (nat_lt 0 (rest a)) 1 0) arcs)
    (sum_by-le-sum_by rest (λ a. all * cond (nat_lt 0 (rest a)) 1 0) arcs (λ a. one (rest a) (below a)))
  where
    one : (r : ℕ) → r < all → r ≤ all * cond (nat_lt 0 r) 1 0
    one zero lt = omega arith
    one (suc r) lt = rw (lt-ltb 0 (suc r) (omega arith)) (omega arith)

-- as many are above 0 as units are left, or more
left_by_rest : (units : ℕ) (weight : ℕ → ℕ) (arcs : List ℕ) → 0 < sum_by weight arcs →
    units_left units weight arcs ≤ count_by (λ a. nat_lt 0 (remainder units weight arcs a)) arcs
left_by_rest units weight arcs some =
    let left : ℕ = units_left units weight arcs in
    let above : ℕ = count_by (λ a. nat_lt 0 (remainder units weight arcs a)) arcs in
    let e : sum_by weight arcs * left ≡ sum_by (remainder units weight arcs) arcs = left_over units weight arcs some in
    let most : sum_by (remainder units weight arcs) arcs ≤ sum_by weight arcs * above = at_most_each (remainder units weight arcs) (sum_by weight arcs) arcs (λ a. mod_below (units * weight a) (sum_by weight arcs) some) in
    elim (cases_lt above left) [
      | inl over ↦ absurd (
          let more : sum_by weight arcs * (above + 1) ≤ sum_by weight arcs * left = mul-le-mul_left (sum_by weight arcs) (let o : above + 1 ≤ left = omega arith in o) in
          omega arith)
      | inr under ↦ under
    ]

pub few_left : (units : ℕ) (weight : ℕ → ℕ) (arcs : List ℕ) → 0 < sum_by weight arcs → units_left units weight arcs ≤ length arcs
few_left units weight arcs some =
    let l = left_by_rest units weight arcs some in
    let c = count_by-le-length (λ a. nat_lt 0 (remainder units weight arcs a)) arcs in
    omega arith

-- remainders below a number sum to less than that number for each
sum_below : (rest : ℕ → ℕ) (all : ℕ) (arcs : List ℕ) → ((a : ℕ) → rest a < all) → sum_by rest arcs + length arcs ≤ all * length arcs
sum_below rest all [] below = omega arith
sum_below rest all (x ∷ xs) below = rw (sum_by-cons rest x xs) (omega (arith, sum_below rest all xs below, below x))

-- fewer units are left than there are numbers
pub fewer_left : (units : ℕ) (weight : ℕ → ℕ) (arcs : List ℕ) → 0 < sum_by weight arcs → units_left units weight arcs < length arcs
fewer_left units weight [] some = absurd (omega arith)
fewer_left units weight (x ∷ xs) some =
    let arcs : List ℕ = x ∷ xs in
    let all : ℕ = sum_by weight arcs in
    let left : ℕ = units_left units weight arcs in
    let few : left ≤ length arcs = few_left units weight arcs some in
    let e : all * left ≡ sum_by (remainder units weight arcs) arcs = left_over units weight arcs some in
    let most : sum_by (remainder units weight arcs) arcs + length arcs ≤ all * length arcs =
    sum_below (remainder units weight arcs) all arcs (λ a. mod_below (units * weight a) all some) in
    elim (cases_lt left (length arcs)) [
      | inl lt ↦ lt
      | inr ge ↦ absurd (
          let times : all * left ≡ all * length arcs = ap (λ n. all * n) (let same : left ≡ length arcs = omega arith in same) in
          omega arith)
    ]

-- ---- the shares

-- the shares are the units
pub shares_sum : (units : ℕ) (weight : ℕ → ℕ) (s : ℕ) (arcs : List ℕ) → IsRising s arcs → 0 < sum_by weight arcs →
    sum_by (share units weight arcs) arcs ≡ units
shares_sum units weight s arcs rising some =
    let extra : ℕ → ℕ = λ a. cond (nat_lt (count_before (remainder units weight arcs) arcs a) (units_left units weight arcs)) 1 0 in
    let within : sum_by (whole_share units weight arcs) arcs ≤ units = whole_within units weight arcs some in
    let few : units_left units weight arcs ≤ length arcs = few_left units weight arcs some in
    let given : sum_by extra arcs ≡ units_left units weight arcs = ranked (comes_before (remainder units weight arcs)) (by_remainder (remainder units weight arcs)) s arcs rising (units_left units weight arcs) few in
    sum_by-add (whole_share units weight arcs) extra arcs ∙ rw given (omega arith)

-- without a remainder there is no more than the whole share
pub even_share : (units : ℕ) (weight : ℕ → ℕ) (arcs : List ℕ) (a : ℕ) → 0 < sum_by weight arcs → remainder units weight arcs a ≡ 0 →
    share units weight arcs a ≡ whole_share units weight arcs a
even_share units weight arcs a some even =
    let rest : ℕ → ℕ = remainder units weight arcs in
    let left = left_by_rest units weight arcs some in
    let fewer : count_by (λ e. nat_lt 0 (rest e)) arcs ≤ count_before rest arcs a =
    count_le (λ e. nat_lt 0 (rest e)) (λ e. comes_before rest e a) arcs (λ e h. rw even (ahead (rest e) e a h)) in
    rw (le-ltb (count_before rest arcs a) (units_left units weight arcs) (omega arith)) (omega arith)
  where
    ahead : (r e a : ℕ) → nat_lt 0 r ≡ true → (nat_lt 0 r || (r == 0 && nat_lt e a)) ≡ true
    ahead r e a h = rw h refl

-- without weight there is no share
pub no_weight : (units : ℕ) (weight : ℕ → ℕ) (arcs : List ℕ) (a : ℕ) → 0 < sum_by weight arcs → weight a ≡ 0 → share units weight arcs a ≡ 0
no_weight units weight arcs a some none =
    let nothing : units * weight a ≡ 0 = rw none (omega arith) in
    even_share units weight arcs a some (ap (λ m. m % sum_by weight arcs) nothing ∙ zero_mod (sum_by weight arcs) some)
    ∙ ap (λ m. m / sum_by weight arcs) nothing ∙ zero_div (sum_by weight arcs) some
  where
    zero_div : (m : ℕ) → 0 < m → 0 / m ≡ 0
    zero_div m pos = omega arith

    zero_mod : (m : ℕ) → 0 < m → 0 % m ≡ 0
    zero_mod m pos = omega arith

-- a share is less than a unit above the even one, and less than a unit below it
pub shares_near : (units : ℕ) (weight : ℕ → ℕ) (arcs : List ℕ) (a : ℕ) → 0 < sum_by weight arcs →
    IsNearEven units (weight a) (sum_by weight arcs) (share units weight arcs a)
shares_near units weight arcs a some =
    let all : ℕ = sum_by weight arcs in
    let whole : ℕ = whole_share units weight arcs a in
    let rest : ℕ = remainder units weight arcs a in
    let e : whole * all + rest ≡ units * weight a = div-add-mod' (units * weight a) all in
    let r : rest < all = mod_below (units * weight a) all some in
    elim (cases_lt 0 rest) [
      | inl uneven ↦ near (nat_lt (count_before (remainder units weight arcs) arcs a) (units_left units weight arcs)) units (weight a) all whole rest e r uneven
      | inr even ↦ rw (even_share units weight arcs a some (let z : rest ≡ 0 = omega arith in z)) (record { not_above = omega arith; not_below = omega arith })
    ]
  where
    near : (b : Bool) (units weight all whole rest : ℕ) → whole * all + rest ≡ units * weight → rest < all → 0 < rest → IsNearEven units weight all (whole + cond b 1 0)
    near true units weight all whole rest e r uneven = record { not_above = omega arith; not_below = omega arith }
    near false units weight all whole rest e r uneven = record { not_above = omega arith; not_below = omega arith }
