-- The numbers of an arc that joins: they are the sums of those that joined, and within their types.
use Rattle.std.proofs.Common.{◌≡◌, ℕ, ◌+◌, ◌*◌, ◌/◌, ◌<◌, ◌≤◌, ◌^◌, ◌==◌, ◌||◌, Bool, true, false, cond, List, length, get_or, set, Option, refl, sym, ◌∙◌, ap, arith, inl, inr}
use Rattle.std.specs.List.{sum_by, range_with_len}
use Rattle.std.proofs.lemmas.Bool.{cases_eq, eq-eqb, ne_eqb}
use Rattle.std.proofs.Math.Nat.{div-le_of_le-mul, mul-le-mul_left, mul-le-mul_right}
use Rattle.definitions.specs.Network.{NetworkData, IsWellFormed, IsWithinLimits, tail_of, head_of, cost_of, weight_of, is_boarding}
use Rattle.definitions.specs.Reach.{is_reached}
use Rattle.definitions.proofs.Sums.{range_le, sum_by-scale}
use Rattle.label_setting.specs.Queue.{queued}
use Rattle.label_setting.specs.Partway.{weighed, totalled, leads, carries, Within, Sums, stride}
use Rattle.label_setting.specs.Settling.{Stands}
use Rattle.label_setting.proofs.SumLemmas.{totalled_le}
use Rattle.label_setting.proofs.TopLemmas.{carried}
use Rattle.label_setting.proofs.ChangeLemmas.{SetAt, set_list}
use Rattle.label_setting.proofs.JoinLemmas.{IsJoining}
use Rattle.label_setting.proofs.TallyLemmas.{sums_join, ones}

-- these and one more
abbrev pub join_at : (ℕ → Bool) → ℕ → ℕ → Bool
join_at joins a b = (b == a) || joins b

joined_at : (joins : ℕ → Bool) (a : ℕ) → SetAt joins (join_at joins a) a true
joined_at joins a = record { at = rw (eq-eqb a a refl) refl; others = λ b ne. rw (ne_eqb b a ne) refl }

-- the weight of some arcs is that of so many u32
weight_bound : (net : NetworkData) → IsWithinLimits net → (here : ℕ → Bool) → weighed (length net.arcs) here (weight_of net) ≤ length net.arcs * 4294967296
weight_bound net small here =
    let le : weighed (length net.arcs) here (weight_of net) ≤ sum_by (λ _. 4294967296 * 1) (range_with_len 0 (length net.arcs)) =
    range_le (λ a. cond (here a) (weight_of net a) 0) (λ _. 4294967296 * 1) 0 (length net.arcs) (λ a low high. at_most (here a) (weight_of net a) (small.weights a (omega arith))) in
    let scale = sum_by-scale 4294967296 (λ _. 1) (range_with_len 0 (length net.arcs)) in
    let one = ones 0 (length net.arcs) in
    omega (arith, le, scale, one)
  where
    at_most : (b : Bool) (x : ℕ) → x ≤ 4294967295 → cond b x 0 ≤ 4294967296 * 1
    at_most true x lt = omega arith
    at_most false x lt = omega arith

-- an arc joins with these sums, which fit, and what they permit is within the room
pub record Joining (net : NetworkData) (u : ℕ → ℕ) (s joins : ℕ → Bool) (o : Option ℕ) (a y n g x : ℕ) (f w : ℕ → ℕ) : Type 0 where
  pub arc : IsJoining net u s joins (join_at joins a) o a y g x
  pub sums : Sums net u s (join_at joins a) f w
  pub weight : g ≤ length net.arcs * 4294967296
  pub total : x ≤ (y + 1) * g
  pub time : y + 1 ≤ n * stride
  pub label : (net.k + x) / g ≤ n * stride

pub joining : (net : NetworkData) (r : ℕ) → IsWellFormed net → IsWithinLimits net → (seen joins : ℕ → Bool) (level last : ℕ) (labels : List ℕ) (marks : List Bool) (order : List ℕ) (n : ℕ) (f w : List ℕ) (q : List (Option ℕ)) →
    Stands net r seen joins level last labels marks order n f w q → (a y : ℕ) → level ≤ y → a < length net.arcs → is_boarding net a ≡ true → joins a ≡ false →
    leads net (λ j. get_or labels j 0) a ≡ y → is_reached marks (head_of net a) ≡ true → is_reached marks (tail_of net a) ≡ false → Within (queued q (length net.arcs + tail_of net a)) y →
    (g x : ℕ) → g ≡ get_or f (tail_of net a) 0 + weight_of net a → x ≡ get_or w (tail_of net a) 0 + weight_of net a * y →
    Joining net (λ j. get_or labels j 0) (is_reached marks) joins (queued q (length net.arcs + tail_of net a)) a y n g x
    (λ j. get_or (set f (tail_of net a) g) j 0) (λ j. get_or (set w (tail_of net a) x) j 0)
joining net r sound small seen joins level last labels marks order n f w q h a y above lt boards off lead head tail within g x weight_is total_is =
    let u : ℕ → ℕ = λ j. get_or labels j 0 in
    let s : ℕ → Bool = is_reached marks in
    let i : ℕ = tail_of net a in
    let these : ℕ → Bool = join_at joins a in
    let now : SetAt joins these a true = joined_at joins a in
    let pos : 0 < weight_of net a = sound.weights a lt boards in
    let tail_lt = sound.tails a lt in
    let fl = h.weights_long in let wl = h.totals_long in
    let weight_set : SetAt (λ j. get_or f j 0) (λ j. get_or (set f i g) j 0) i (get_or f i 0 + weight_of net a) = rw (← weight_is) (set_list f i g 0 (omega arith)) in
    let total_set : SetAt (λ j. get_or w j 0) (λ j. get_or (set w i x) j 0) i (get_or w i 0 + weight_of net a * y) = rw (← total_is) (set_list w i x 0 (omega arith)) in
    let sums = sums_join net u s joins these (λ j. get_or f j 0) (λ j. get_or w j 0) h.sums a y lt boards off lead now
    (λ j. get_or (set f i g) j 0) (λ j. get_or (set w i x) j 0) weight_set total_set in
    let weight : g ≡ weighed (length net.arcs) (carries net these i) (weight_of net) = weight_is ∙ sym weight_set.at ∙ sums.weights i tail_lt tail in
    let total : x ≡ totalled (length net.arcs) (carries net these i) (weight_of net) (leads net u) = total_is ∙ sym total_set.at ∙ sums.totals i tail_lt tail in
    let under : totalled (length net.arcs) (carries net these i) (weight_of net) (leads net u) ≤ (y + 1) * weighed (length net.arcs) (carries net these i) (weight_of net) =
    totalled_le (length net.arcs) (carries net these i) (weight_of net) (leads net u) (y + 1)
    (λ b blt c. let cr = carried net these i b c in elim (cases_eq b a) [
      | inl e ↦ (let k : leads net u b ≡ leads net u a = ap (leads net u) e in omega arith)
      | inr ne ↦ (let l = h.partway.low b blt cr.boards (sym (now.others b ne) ∙ cr.here) (ap s cr.tail ∙ tail) in omega arith)
    ]) in
    let times : (y + 1) * g ≡ (y + 1) * weighed (length net.arcs) (carries net these i) (weight_of net) = ap (λ z. (y + 1) * z) weight in
    let all : x ≤ (y + 1) * g = omega (arith, total, under, times) in
    let bounded = weight_bound net small (carries net these i) in
    let near = h.room.nodes (head_of net a) (sound.heads a lt) head in
    let cost : cost_of net a ≤ 1000000000 = small.costs a lt in
    let few : net.k ≤ 345600000000 = small.k in
    let positive : 0 < g = omega arith in
    let k_le : net.k * 1 ≤ net.k * g = mul-le-mul_left net.k (omega arith) in
    let most : (net.k + x) / g ≤ net.k + (y + 1) = div-le_of_le-mul g (omega arith) in
    record {
      arc = record { there = lt; boards = boards; tail = tail; leads_to = lead; within = within; now = now; weight = weight; total = total; positive = positive };
      sums = sums;
      weight = omega (arith, weight, bounded);
      total = all;
      time = omega arith;
      label = omega arith;
    }

pub record Fits (net : NetworkData) (f w : ℕ) : Type 0 where
  pub weight : f < 2 ^ 64
  pub positive : 0 < f
  pub total : net.k + w < 2 ^ 128
  pub label : (net.k + w) / f < 2 ^ 64

pub join_fits : (net : NetworkData) (u : ℕ → ℕ) (s joins : ℕ → Bool) (o : Option ℕ) (a y n g x : ℕ) (f w : ℕ → ℕ) → IsWithinLimits net → Joining net u s joins o a y n g x f w → n ≤ net.nodes → Fits net g x
join_fits net u s joins o a y n g x f w small h within =
    let nodes : net.nodes ≤ 1048576 = small.nodes in
    let arcs : length net.arcs ≤ 4194304 = small.arcs in
    let k : net.k ≤ 345600000000 = small.k in
    let weight = h.weight in let total = h.total in let time = h.time in let label = h.label in
    let times : (y + 1) * g ≤ (1048576 * stride) * g = mul-le-mul_right g (omega arith) in
    record { weight = omega arith; positive = h.arc.positive; total = omega arith; label = omega arith }
