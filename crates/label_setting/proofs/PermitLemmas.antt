-- What the arcs of a node permit, among fewer or more marks and under other labels.
use Rattle.std.proofs.Common.{◌≡◌, ℕ, ◌+◌, ◌-◌, ◌*◌, ◌<◌, ◌≤◌, ◌==◌, ◌&&◌, Bool, true, false, cond, List, length, arith, inl, inr}
use Rattle.std.specs.List.{range_with_len}
use Rattle.std.proofs.lemmas.Bool.{cases_lt, cases_Bool, and_parts, and_from, eqb-true, eq-eqb}
use Rattle.std.proofs.Math.Nat.{mul-le-mul_left}
use Rattle.definitions.specs.Network.{NetworkData, IsWellFormed, tail_of, head_of, weight_of, is_boarding}
use Rattle.definitions.specs.Dual.{time_through}
use Rattle.definitions.specs.Reach.{is_reached}
use Rattle.definitions.specs.Labels.{Permits}
use Rattle.definitions.proofs.SavingLemmas.{saved, saved_le, saved_is, bears}
use Rattle.definitions.proofs.Sums.{range_le, sum_by-none}
use Rattle.label_setting.specs.Plain.{IsForbidden, IsFreePast}
use Rattle.label_setting.proofs.EndLemmas.{term_le_sum}

pub record Bears (net : NetworkData) (m : List Bool) (i a : ℕ) : Type 0 where
  pub tail : tail_of net a ≡ i
  pub boards : is_boarding net a ≡ true
  pub head : is_reached m (head_of net a) ≡ true

pub bearing : (net : NetworkData) (m : List Bool) (i a : ℕ) → bears net m i a ≡ true → Bears net m i a
bearing net m i a h =
    let outer = and_parts (tail_of net a == i) (is_boarding net a && is_reached m (head_of net a)) h in
    let inner = and_parts (is_boarding net a) (is_reached m (head_of net a)) outer.1 in
    record { tail = eqb-true (tail_of net a) i outer.0; boards = inner.0; head = inner.1 }

pub bears_from : (net : NetworkData) (m : List Bool) (i a : ℕ) → Bears net m i a → bears net m i a ≡ true
bears_from net m i a b = and_from _ _ (eq-eqb _ _ b.tail) (and_from _ _ b.boards b.head)

-- fewer marks and higher labels permit more, and a lower label is permitted where a higher one is
pub permits_by : (net : NetworkData) (m n : List Bool) (u v : List ℕ) (i w x : ℕ) → w ≤ x →
    ((a : ℕ) → a < length net.arcs → is_reached m (head_of net a) ≡ true → (is_reached n (head_of net a) ≡ true) × (time_through net v a ≤ time_through net u a)) →
    Permits net n v i x → Permits net m u i w
permits_by net m n u v i w x le by h = record {
  free = λ a lt tail head free. let b = by a lt head in let f = h.free a lt tail b.0 free in let g = b.1 in omega arith;
  boarding =
      let most = saved_le (length net.arcs) (bears net m i) (bears net n i) (weight_of net) (time_through net u) (time_through net v) w x le
      (λ a lt c. let b = bearing net m i a c in let k = by a lt b.head in inr (bears_from net n i a (record { tail = b.tail; boards = b.boards; head = k.0 }), k.1)) in
      let e = saved_is net m u i w in let f = saved_is net n v i x in let k = h.boarding in
      omega (arith, most, e, f, k);
}

pub permits_down : (net : NetworkData) (m : List Bool) (u : List ℕ) (i w x : ℕ) → w ≤ x → Permits net m u i x → Permits net m u i w
permits_down net m u i w x le h = permits_by net m m u u i w x le (λ a lt head. (head, omega arith)) h

nothing : (n : ℕ) (here : ℕ → Bool) (f t : ℕ → ℕ) → saved n here f t 0 ≤ 0
nothing n here f t =
    let le = range_le (λ a. cond (here a) (f a * (0 - t a)) 0) (λ _. 0) 0 n (λ a low high. none (here a) (f a) (t a)) in
    let z = sum_by-none (range_with_len 0 n) in
    omega (arith, le, z)
  where
    none : (b : Bool) (f t : ℕ) → cond b (f * (0 - t)) 0 ≤ 0
    none true f t = let e : 0 - t ≡ 0 = omega arith in rw e (omega arith)
    none false f t = omega arith

-- 0 is permitted
pub permits_zero : (net : NetworkData) (m : List Bool) (u : List ℕ) (i : ℕ) → Permits net m u i 0
permits_zero net m u i = record {
  free = λ a lt tail head free. omega arith;
  boarding = let e = saved_is net m u i 0 in let z = nothing (length net.arcs) (bears net m i) (weight_of net) (time_through net u) in omega (arith, e, z);
}

-- one arc permits no more than what it leads to and the longest wait
pub one_permits : (net : NetworkData) (m : List Bool) (u : List ℕ) (i w a : ℕ) → IsWellFormed net → a < length net.arcs → tail_of net a ≡ i → is_reached m (head_of net a) ≡ true →
    Permits net m u i w → w ≤ time_through net u a + net.k
one_permits net m u i w a sound lt tail head h = elim (cases_Bool (is_boarding net a)) [
  | inr free ↦ (let f = h.free a lt tail head free in omega arith)
  | inl boards ↦ (
      let c = bears_from net m i a (record { tail = tail; boards = boards; head = head }) in
      let term = term_le_sum (λ b. cond (bears net m i b) (weight_of net b * (w - time_through net u b)) 0) (length net.arcs) a lt in
      let mine : weight_of net a * (w - time_through net u a) ≤ saved (length net.arcs) (bears net m i) (weight_of net) (time_through net u) w = rw c at term in
      let pos : 1 ≤ weight_of net a = sound.weights a lt boards in
      let least : (w - time_through net u a) * 1 ≤ (w - time_through net u a) * weight_of net a = mul-le-mul_left (w - time_through net u a) pos in
      let e = saved_is net m u i w in let k = h.boarding in
      let turn : (w - time_through net u a) * weight_of net a ≡ weight_of net a * (w - time_through net u a) = omega arith in
      let most : w - time_through net u a ≤ net.k = omega (arith, mine, least, turn, e, k) in
      omega arith)
]

-- the arcs do not permit a label where one of them forbids it
pub forbids : (net : NetworkData) (m : List Bool) (u : List ℕ) (i w a x : ℕ) → a < length net.arcs → IsForbidden net m u i w a → Permits net m u i x → x < w
forbids net m u i w a x lt f p = let le = p.free a lt f.tail f.head f.free in let l = f.less in omega arith

-- where it is not permitted, all that is permitted is lower
pub not_permitted : (net : NetworkData) (m : List Bool) (u : List ℕ) (i w x : ℕ) → net.k < saved (length net.arcs) (bears net m i) (weight_of net) (time_through net u) w → Permits net m u i x → x < w
not_permitted net m u i w x over p = elim (cases_lt x w) [
  | inl less ↦ less
  | inr high ↦ absurd (
      let q = permits_down net m u i w x high p in
      let b = q.boarding in let e = saved_is net m u i w in
      omega (arith, b, e, over))
]

pub permitted : (net : NetworkData) (m : List Bool) (u : List ℕ) (i w : ℕ) → ((a : ℕ) → a < length net.arcs → IsFreePast net m u i w a) →
    saved (length net.arcs) (bears net m i) (weight_of net) (time_through net u) w ≤ net.k → Permits net m u i w
permitted net m u i w free le = record { free = λ a lt tail head off. free a lt tail head off; boarding = let e = saved_is net m u i w in omega (arith, e, le) }
