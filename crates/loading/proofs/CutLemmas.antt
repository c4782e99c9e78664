-- The units that whole parts leave go to those in front.
use Rattle.std.proofs.Common.{◌≡◌, ◌≢◌, ℕ, suc, ◌+◌, ◌-◌, ◌*◌, ◌%◌, ◌<◌, ◌≤◌, true, false, cond, List, ◌∷◌, ◌++◌, length, refl, sym, ◌∙◌, ap, arith, inl, inr, get_or, sum, subst}
use Rattle.std.specs.List.{range_with_len}
use Rattle.std.specs.List.Sorted.{IsPermutation, IsSplitAroundBy}
use Rattle.std.proofs.lemmas.List.{get_or_default, get_or_append_left, get_or-append_right, length-append}
use Rattle.std.proofs.lemmas.List.FromFn.{get_or-range_with_len, length-range_with_len}
use Rattle.std.proofs.lemmas.Bool.{cases_lt, cases_order, lt-ltb, le-ltb}
use Rattle.std.proofs.lemmas.List.Sorted.{sum_by-IsPermutation, length_permutation}
use Rattle.definitions.specs.Split.{whole_share, remainder, units_left, comes_before, count_before, share}
use Rattle.definitions.proofs.RankLemmas.{count_le, count_lt, never_self}
use Rattle.definitions.proofs.SplitLemmas.{by_remainder}
use Rattle.loading.specs.Places.{IsNumbered, AreApart}
use Rattle.loading.proofs.OrderLemmas.{one_place_each, placed, count_front, either_way}
use Rattle.loading.proofs.ShareLemmas.{weight_in, numbers, AreWhole, total_at, whole_at, left_is, numbered}

-- numbers of a range in an order in which front comes before x, and x before back
pub record IsCut (rest : ℕ → ℕ) (n : ℕ) (front : List ℕ) (x : ℕ) (back : List ℕ) : Type 0 where
  pub all : IsPermutation (range_with_len 0 n) (front ++ x ∷ back)
  pub cut : IsSplitAroundBy (comes_before rest) front x back

pub cut_from : (rest : ℕ → ℕ) (n : ℕ) (scratch front : List ℕ) (x : ℕ) (back : List ℕ) → IsNumbered n scratch →
    IsPermutation scratch (front ++ x ∷ back) → IsSplitAroundBy (comes_before rest) front x back → IsCut rest n front x back
cut_from rest n scratch front x back named perm split = record {
  all = subst (λ (ys : List ℕ). IsPermutation ys (front ++ x ∷ back)) (sym (numbered n scratch named)) perm;
  cut = split;
}

front_at : (front : List ℕ) (x : ℕ) (back : List ℕ) (k : ℕ) → k < length front → get_or (front ++ x ∷ back) k 0 ≡ get_or front k 0
front_at front x back k lt = get_or_append_left front (x ∷ back) 0 k lt

-- behind the front stand x and the back
behind_at : (front : List ℕ) (x : ℕ) (back : List ℕ) (k : ℕ) → length front ≤ k → get_or (front ++ x ∷ back) k 0 ≡ get_or (x ∷ back) (k - length front) 0
behind_at front x back k le = get_or-append_right front (x ∷ back) (length front) k 0 refl le

middle_at : (front : List ℕ) (x : ℕ) (back : List ℕ) → get_or (front ++ x ∷ back) (length front) 0 ≡ x
middle_at front x back = behind_at front x back (length front) (omega arith) ∙ ap (λ j. get_or (x ∷ back) j 0) (let z : length front - length front ≡ 0 = omega arith in z)

back_at : (front : List ℕ) (x : ℕ) (back : List ℕ) (k : ℕ) → length front < k → get_or (front ++ x ∷ back) k 0 ≡ get_or back (k - length front - 1) 0
back_at front x back k lt = behind_at front x back k (omega arith) ∙ ap (λ j. get_or (x ∷ back) j 0) (let z : k - length front ≡ suc (k - length front - 1) = omega arith in z)

all_long : (front : List ℕ) (x : ℕ) (back : List ℕ) → length (front ++ x ∷ back) ≡ length front + suc (length back)
all_long front x back = length-append front (x ∷ back)

pub front_within : (rest : ℕ → ℕ) (n : ℕ) (front : List ℕ) (x : ℕ) (back : List ℕ) → IsCut rest n front x back →
    (k d : ℕ) → k < length front → get_or front k d < n
front_within rest n front x back h k d lt =
    let ys : List ℕ = front ++ x ∷ back in
    let each = one_place_each n ys h.all in
    let many = all_long front x back in
    let long : length ys ≡ n = length_permutation (range_with_len 0 n) ys h.all ∙ length-range_with_len 0 n in
    let here : get_or ys k 0 < length ys = each.within k (omega arith) in
    let same : get_or front k d ≡ get_or ys k 0 = get_or_default front k d 0 lt ∙ sym (front_at front x back k lt) in
    omega arith

pub front_apart : (rest : ℕ → ℕ) (n : ℕ) (front : List ℕ) (x : ℕ) (back : List ℕ) → IsCut rest n front x back → AreApart front
front_apart rest n front x back h j k lj lk same =
    let many = all_long front x back in
    (one_place_each n (front ++ x ∷ back) h.all).apart j k (omega arith) (omega arith)
    (front_at front x back j lj ∙ same ∙ sym (front_at front x back k lk))

-- who comes before x: those in front
before_middle : (rest : ℕ → ℕ) (n : ℕ) (front : List ℕ) (x : ℕ) (back : List ℕ) → IsCut rest n front x back →
    (k : ℕ) → k < length front → comes_before rest (get_or (front ++ x ∷ back) k 0) x ≡ true
before_middle rest n front x back h k lt =
    let ys : List ℕ = front ++ x ∷ back in
    let each = one_place_each n ys h.all in
    let long = all_long front x back in
    either_way (comes_before rest) (by_remainder rest) (get_or ys k 0) x
    (λ same. let e = each.apart k (length front) (omega arith) (omega arith) (same ∙ sym (middle_at front x back)) in absurd (omega arith))
    (ap (λ y. comes_before rest x y) (front_at front x back k lt) ∙ h.cut.0 k 0 lt)

not_before_middle : (rest : ℕ → ℕ) (n : ℕ) (front : List ℕ) (x : ℕ) (back : List ℕ) → IsCut rest n front x back →
    (k : ℕ) → length front ≤ k → k < length (front ++ x ∷ back) → comes_before rest (get_or (front ++ x ∷ back) k 0) x ≡ false
not_before_middle rest n front x back h k low lt = elim (cases_lt (length front) k) [
  | inl more ↦ (let long = all_long front x back in
      ap (λ y. comes_before rest y x) (back_at front x back k more) ∙ h.cut.1 (k - length front - 1) 0 (omega arith))
  | inr here ↦ (let same : length front ≡ k = omega arith in
      ap (λ y. comes_before rest y x) (ap (λ j. get_or (front ++ x ∷ back) j 0) (sym same) ∙ middle_at front x back) ∙ never_self (comes_before rest) (by_remainder rest) x)
]

middle_place : (rest : ℕ → ℕ) (n : ℕ) (front : List ℕ) (x : ℕ) (back : List ℕ) → IsCut rest n front x back →
    count_before rest (range_with_len 0 n) x ≡ length front
middle_place rest n front x back h =
    let long = all_long front x back in
    sym (sum_by-IsPermutation (λ e. cond (comes_before rest e x) 1 0) (range_with_len 0 n) (front ++ x ∷ back) h.all)
    ∙ count_front (λ e. comes_before rest e x) (front ++ x ∷ back) (length front) (omega arith)
    (before_middle rest n front x back h) (not_before_middle rest n front x back h)

-- a number in front has fewer before it than stand in front
front_place : (rest : ℕ → ℕ) (n : ℕ) (front : List ℕ) (x : ℕ) (back : List ℕ) → IsCut rest n front x back →
    (a : ℕ) → a < n → comes_before rest a x ≡ true → count_before rest (range_with_len 0 n) a < length front
front_place rest n front x back h a lt ahead =
    let order = by_remainder rest in
    let at : get_or (range_with_len 0 n) a 0 ≡ a = get_or-range_with_len 0 n a 0 lt ∙ (let z : 0 + a ≡ a = omega arith in z) in
    let fewer : count_before rest (range_with_len 0 n) a + 1 ≤ count_before rest (range_with_len 0 n) x =
    count_lt (λ e. comes_before rest e a) (λ e. comes_before rest e x) (range_with_len 0 n) a (omega (arith, length-range_with_len 0 n))
    (rw at (never_self (comes_before rest) order a)) (rw at ahead) (λ e before. order.chains e a x before ahead) in
    let place = middle_place rest n front x back h in
    omega arith

-- another has as many
back_place : (rest : ℕ → ℕ) (n : ℕ) (front : List ℕ) (x : ℕ) (back : List ℕ) → IsCut rest n front x back →
    (a : ℕ) → comes_before rest a x ≡ false → length front ≤ count_before rest (range_with_len 0 n) a
back_place rest n front x back h a behind =
    let order = by_remainder rest in
    let place = middle_place rest n front x back h in
    let no_fewer : count_before rest (range_with_len 0 n) x ≤ count_before rest (range_with_len 0 n) a =
    count_le (λ e. comes_before rest e x) (λ e. comes_before rest e a) (range_with_len 0 n)
    (λ e before. elim (cases_order x a) [
      | inl same ↦ ap (λ y. comes_before rest e y) (sym same) ∙ before
      | inr other ↦ order.chains e x a before (either_way (comes_before rest) order x a (λ same. elim other [ inl lt ↦ omega arith | inr gt ↦ omega arith ]) behind)
    ]) in
    omega arith

-- one unit more for each in front makes the shares
pub shares_given : (units all left : ℕ) (ws out new front : List ℕ) (x : ℕ) (back : List ℕ) → AreWhole units all ws out →
    left ≡ units - sum out → length front ≡ left → IsCut (λ a. units * get_or ws a 0 % all) (length ws) front x back →
    ((k : ℕ) → k < length front → get_or new (get_or front k 0) 0 ≡ get_or out (get_or front k 0) 0 + 1) →
    ((a : ℕ) → ((k : ℕ) → k < length front → get_or front k 0 ≢ a) → get_or new a 0 ≡ get_or out a 0) →
    (a : ℕ) → a < length ws → get_or new a 0 ≡ share units (weight_in ws) (numbers ws) a
shares_given units all left ws out new front x back h e long h' given kept a lt =
    let rest : ℕ → ℕ = remainder units (weight_in ws) (numbers ws) in
    let ys : List ℕ = front ++ x ∷ back in
    let cut : IsCut rest (length ws) front x back = subst (λ t. IsCut (λ a. units * get_or ws a 0 % t) (length ws) front x back) (total_at units all ws out h) h' in
    let each = one_place_each (length ws) ys cut.all in
    let w : (k : ℕ) × (k < length ys) × (get_or ys k 0 ≡ a) = placed (length ws) ys cut.all a lt in
    let k : ℕ = w.0 in
    let many = all_long front x back in
    let whole : get_or out a 0 ≡ whole_share units (weight_in ws) (numbers ws) a = whole_at units all ws out h a lt in
    let same : length front ≡ units_left units (weight_in ws) (numbers ws) = long ∙ e ∙ left_is units all ws out h in
    elim (cases_lt k (length front)) [
      | inl l ↦ (
          let at : get_or front k 0 ≡ a = sym (front_at front x back k l) ∙ w.2 in
          let ahead : comes_before rest a x ≡ true = ap (λ y. comes_before rest y x) (sym w.2) ∙ before_middle rest (length ws) front x back cut k l in
          let place = front_place rest (length ws) front x back cut a lt ahead in
          let here : get_or new a 0 ≡ get_or out a 0 + 1 = ap (λ v. get_or new v 0) (sym at) ∙ given k l ∙ ap (λ v. get_or out v 0 + 1) at in
          here ∙ rw (whole, ← same, lt-ltb (count_before rest (numbers ws) a) (length front) place) refl)
      | inr g ↦ (
          let behind : comes_before rest a x ≡ false = ap (λ y. comes_before rest y x) (sym w.2) ∙ not_before_middle rest (length ws) front x back cut k g w.1 in
          let place = back_place rest (length ws) front x back cut a behind in
          let here : get_or new a 0 ≡ get_or out a 0 = kept a (λ j less at. (let one = each.apart j k (omega arith) w.1 (front_at front x back j less ∙ at ∙ sym w.2) in omega arith)) in
          here ∙ rw (whole, ← same, le-ltb (count_before rest (numbers ws) a) (length front) place) (omega arith))
    ]
