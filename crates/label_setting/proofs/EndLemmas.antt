-- The end of the settling: with nothing in the queue, reach and labels are found.
use Rattle.std.proofs.Common.{◌≡◌, ℕ, ◌+◌, ◌-◌, ◌*◌, ◌<◌, ◌≤◌, ◌==◌, ◌&&◌, Bool, true, false, cond, List, [], ◌∷◌, length, get_or, Option, None, refl, sym, ◌∙◌, ap, arith, inl, inr}
use Rattle.std.specs.List.{sum_by, range_with_len}
use Rattle.std.proofs.lemmas.Bool.{cases_Bool, and_from, lt-ltb, true_from_ne_false}
use Rattle.std.proofs.Math.Nat.{mul-le-mul_left}
use Rattle.definitions.specs.Network.{NetworkData, IsWellFormed, tail_of, head_of, cost_of, weight_of, is_boarding}
use Rattle.definitions.specs.Reach.{IsPath, IsReach, is_reached}
use Rattle.definitions.specs.Labels.{SolvesLabels}
use Rattle.definitions.specs.Dual.{time_through}
use Rattle.definitions.proofs.SavingLemmas.{saved, saved_is, bears}
use Rattle.definitions.proofs.Sums.{range_le, one_term}
use Rattle.label_setting.specs.Partway.{leads, carries, Allows, IsTop, Partway, all_seen}
use Rattle.label_setting.proofs.SumLemmas.{here_same}
use Rattle.label_setting.proofs.TopLemmas.{carried, carries_from}
use Rattle.label_setting.proofs.TallyLemmas.{carries_same}

-- a term is within its sum
pub term_le_sum : (f : ℕ → ℕ) (n a : ℕ) → a < n → f a ≤ sum_by f (range_with_len 0 n)
term_le_sum f n a lt =
    let e = one_term f a 0 n (omega arith) (omega arith) in
    let le : sum_by (λ i. cond (a == i) (f i) 0) (range_with_len 0 n) ≤ sum_by f (range_with_len 0 n) = range_le (λ i. cond (a == i) (f i) 0) f 0 n (λ i low high. part (a == i) (f i)) in
    omega arith
  where
    part : (b : Bool) (x : ℕ) → cond b x 0 ≤ x
    part true x = omega arith
    part false x = omega arith

-- with nothing in the queue, the tail of an arc to a settled node is settled
back : (net : NetworkData) (r : ℕ) (u : ℕ → ℕ) (s : ℕ → Bool) (joins : ℕ → Bool) (q : ℕ → Option ℕ) (level last : ℕ) → IsWellFormed net → Partway net r u s (all_seen net s) joins q level last → ((x : ℕ) → q x ≡ None) →
    (a : ℕ) → a < length net.arcs → s (head_of net a) ≡ true → s (tail_of net a) ≡ true
back net r u s joins q level last sound h empty a lt head = elim (cases_Bool (s (tail_of net a))) [
  | inl here ↦ here
  | inr opened ↦ absurd (
      let seen : all_seen net s a ≡ true = and_from _ _ (lt-ltb a (length net.arcs) lt) head in
      let top : IsTop net (leads net u) (all_seen net s) joins (tail_of net a) None = rw (empty (length net.arcs + tail_of net a)) at (h.opened (tail_of net a) (sound.tails a lt) opened) in
      let joined : is_boarding net a ≡ true → joins a ≡ true = λ boards. true_from_ne_false (joins a) (λ off. elim (h.others a lt boards seen opened off) [
        | inl queued ↦ (let e = empty a in cc)
        | inr past ↦ (let e = empty (length net.arcs + tail_of net a) in let f = past.1 in cc)
      ]) in
      elim (cases_Bool (is_boarding net a)) [
        | inr free ↦ (let f = (top.all (leads net u a + 1) tt).free a lt refl free seen in omega arith)
        | inl boards ↦ (
            let w : ℕ = leads net u a + (net.k + 1) in
            let c : carries net joins (tail_of net a) a ≡ true = carries_from net joins (tail_of net a) a (record { tail = refl; boards = boards; here = joined boards }) in
            let price : saved (length net.arcs) (carries net joins (tail_of net a)) (weight_of net) (leads net u) w ≤ net.k = (top.all w tt).waiting in
            let term = term_le_sum (λ b. cond (carries net joins (tail_of net a) b) (weight_of net b * (w - leads net u b)) 0) (length net.arcs) a lt in
            let mine : weight_of net a * (w - leads net u a) ≤ saved (length net.arcs) (carries net joins (tail_of net a)) (weight_of net) (leads net u) w = rw c at term in
            let pos : 1 ≤ weight_of net a = sound.weights a lt boards in
            let gap : w - leads net u a ≡ net.k + 1 = omega arith in
            let times : weight_of net a * (w - leads net u a) ≡ weight_of net a * (net.k + 1) = ap (λ n. weight_of net a * n) gap in
            let least : (net.k + 1) * 1 ≤ (net.k + 1) * weight_of net a = mul-le-mul_left (net.k + 1) pos in
            omega arith)
      ])
]

pub along : (net : NetworkData) (r : ℕ) (s : ℕ → Bool) → s r ≡ true → ((a : ℕ) → a < length net.arcs → s (head_of net a) ≡ true → s (tail_of net a) ≡ true) →
    (i : ℕ) (path : List ℕ) → IsPath net r i path → s i ≡ true
along net r s goal back i [] e = ap s e ∙ goal
along net r s goal back i (a ∷ path) p = ap s (sym p.1) ∙ back a p.0 (along net r s goal back (head_of net a) path p.2)

pub reach : (net : NetworkData) (r : ℕ) (u : ℕ → ℕ) (reached : List Bool) (joins : ℕ → Bool) (q : ℕ → Option ℕ) (level last : ℕ) → IsWellFormed net →
    Partway net r u (is_reached reached) (all_seen net (is_reached reached)) joins q level last → ((x : ℕ) → q x ≡ None) → length reached ≡ net.nodes → IsReach net r reached
reach net r u reached joins q level last sound h empty long = record {
  mark_per_node = long;
  exact = λ i lt. (h.reaches i lt, λ p. along net r (is_reached reached) h.goal (back net r u (is_reached reached) joins q level last sound h empty) i p.0 p.1);
}

-- the labels: those of settled nodes, and the greatest of them elsewhere
pub solved : (net : NetworkData) (r : ℕ) (u : ℕ → ℕ) (reached : List Bool) (joins : ℕ → Bool) (q : ℕ → Option ℕ) (level last : ℕ) → IsWellFormed net →
    Partway net r u (is_reached reached) (all_seen net (is_reached reached)) joins q level last →
    (v : List ℕ) (far : ℕ) → length v ≡ net.nodes → ((i : ℕ) → is_reached reached i ≡ true → get_or v i 0 ≡ u i) →
    ((i : ℕ) → i < net.nodes → is_reached reached i ≡ false → get_or v i 0 ≡ u far) → far < net.nodes → is_reached reached far ≡ true →
    ((i : ℕ) → i < net.nodes → is_reached reached i ≡ true → u i ≤ u far) → SolvesLabels net r reached v
solved net r u reached joins q level last sound h v far long same other far_lt far_in most =
    let s : ℕ → Bool = is_reached reached in
    let lead : (a : ℕ) → s (head_of net a) ≡ true → time_through net v a ≡ leads net u a = λ a head. ap (λ n. n + cost_of net a) (same (head_of net a) head) in
    let seen_in : (a : ℕ) → a < length net.arcs → all_seen net s a ≡ s (head_of net a) = λ a lt. ap (λ b. b && s (head_of net a)) (lt-ltb a (length net.arcs) lt) in
    let price : (i w : ℕ) → saved (length net.arcs) (bears net reached i) (weight_of net) (time_through net v) w ≡ saved (length net.arcs) (carries net (all_seen net s) i) (weight_of net) (leads net u) w = λ i w.
    here_same (length net.arcs) (carries net (all_seen net s) i) (bears net reached i) (λ a. weight_of net a * (w - leads net u a)) (λ a. weight_of net a * (w - time_through net v a))
    (λ a lt. carries_same net (all_seen net s) (λ b. s (head_of net b)) i a (λ tail boards. sym (seen_in a lt)))
    (λ a lt c. ap (λ n. weight_of net a * (w - n)) (lead a (sym (seen_in a lt) ∙ (carried net (all_seen net s) i a c).here))) in
    record {
      label_per_node = long;
      zero_at_destination = same r h.goal ∙ h.start;
      reaching = λ i lt ne is. record {
        permitted =
            let a : Allows net (leads net u) (all_seen net s) (all_seen net s) i (u i) = (h.closed i lt is ne).all (u i) (omega arith) in
            rw (same i is) (record {
              free = λ b blt tail head free. let f = a.free b blt tail free (seen_in b blt ∙ head) in let e = lead b head in omega arith;
              boarding = rw (saved_is net reached v i (u i), price i (u i)) a.waiting;
            });
        greatest = λ w p. rw (same i is) ((h.closed i lt is ne).only w (record {
          free = λ b blt tail free here. let head = sym (seen_in b blt) ∙ here in let f = p.free b blt tail head free in let e = lead b head in omega arith;
          waiting = let k = p.boarding in let e1 = saved_is net reached v i w in let e2 = price i w in omega (arith, k, e1, e2);
        }));
      };
      elsewhere = λ i lt away. record {
        one = (far, far_lt, far_in, other i lt away ∙ sym (same far far_in));
        highest = λ j jlt is. let e = other i lt away in let f = same j is in let m = most j jlt is in omega arith;
      };
    }
