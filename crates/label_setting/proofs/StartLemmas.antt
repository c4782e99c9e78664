-- The start of the settling: only the destination is settled, at 0.
use Rattle.std.proofs.Common.{◌≡◌, ℕ, ◌+◌, ◌-◌, ◌*◌, ◌<◌, ◌==◌, ◌&&◌, Bool, true, false, cond, [], ◌∷◌, length, Option, None, refl, sym, ◌∙◌, ap, arith, inl, inr}
use Rattle.std.specs.List.{sum_by, range_with_len}
use Rattle.std.proofs.lemmas.Bool.{cases_eq, false≢true, ne_eqb, eq-eqb}
use Rattle.definitions.specs.Network.{NetworkData, tail_of, weight_of, is_boarding}
use Rattle.definitions.proofs.SavingLemmas.{saved}
use Rattle.definitions.proofs.Sums.{one_term, sum_by-none, range_same}
use Rattle.label_setting.specs.Partway.{leads, carries, Partway, Sums, Room, Ordered}
use Rattle.label_setting.proofs.ChangeLemmas.{SetAt}

-- only r is settled, at 0
pub begins : (net : NetworkData) (r : ℕ) (u : ℕ → ℕ) (s : ℕ → Bool) (q : ℕ → Option ℕ) → u r ≡ 0 → SetAt (λ _. false) s r true → ((x : ℕ) → q x ≡ None) →
    Partway net r u s (λ _. false) (λ _. false) q 0 (length net.arcs + r)
begins net r u s q start mark empty =
    let only_r : (i : ℕ) → s i ≡ true → i ≡ r = λ i is. elim (cases_eq i r) [ inl e ↦ e | inr ne ↦ absurd (false≢true (sym (mark.others i ne) ∙ is)) ] in
    record {
      goal = mark.at;
      start = start;
      heads = λ a here. absurd (false≢true here);
      reaches = λ i lt is. ([], only_r i is);
      closed = λ i lt is ne. absurd (ne (only_r i is));
      opened = λ i lt opened. rw (empty (length net.arcs + i)) (record {
        only = λ w h. tt;
        all = λ w h. record {
          free = λ a alt tail free here. absurd (false≢true here);
          waiting =
              let none : saved (length net.arcs) (carries net (λ _. false) i) (weight_of net) (leads net u) w ≡ sum_by (λ _. 0) (range_with_len 0 (length net.arcs)) =
              range_same (λ a. cond (carries net (λ _. false) i a) (weight_of net a * (w - leads net u a)) 0) (λ _. 0) 0 (length net.arcs)
              (λ a low high. ap (λ b. cond b (weight_of net a * (w - leads net u a)) 0) (nothing (tail_of net a == i) (is_boarding net a))) in
              let z = sum_by-none (range_with_len 0 (length net.arcs)) in
              omega arith;
        };
      });
      below = λ i lt is. let e = only_r i is in rw (e, start) (inr (refl, omega arith));
      later = λ x y is. absurd (let e = empty x in cc);
      joined = λ a on. on;
      others = λ a lt boards here opened off. absurd (false≢true here);
      arcs = λ a y lt is. absurd (let e = empty a in cc);
      nodes = λ i y lt is. absurd (let e = empty (length net.arcs + i) in cc);
      low = λ a lt boards here opened. absurd (false≢true here);
    }
  where
    nothing : (x y : Bool) → (x && (y && false)) ≡ false
    nothing true true = refl
    nothing true false = refl
    nothing false y = refl

-- no arc was joined, and nothing is weighed
pub sums_begin : (net : NetworkData) (u : ℕ → ℕ) (s : ℕ → Bool) (f w : ℕ → ℕ) → ((i : ℕ) → f i ≡ 0) → ((i : ℕ) → w i ≡ 0) → Sums net u s (λ _. false) f w
sums_begin net u s f w weights totals = record {
  weights = λ i lt opened. weights i ∙ sym (zeros (weight_of net) i);
  totals = λ i lt opened. totals i ∙ sym (zeros (λ a. weight_of net a * leads net u a) i);
}
  where
    nothing : (x y : Bool) → (x && (y && false)) ≡ false
    nothing true true = refl
    nothing true false = refl
    nothing false y = refl

    zeros : (g : ℕ → ℕ) (i : ℕ) → sum_by (λ a. cond (carries net (λ _. false) i a) (g a) 0) (range_with_len 0 (length net.arcs)) ≡ 0
    zeros g i =
        range_same (λ a. cond (carries net (λ _. false) i a) (g a) 0) (λ _. 0) 0 (length net.arcs)
        (λ a low high. ap (λ b. cond b (g a) 0) (nothing (tail_of net a == i) (is_boarding net a)))
        ∙ sum_by-none (range_with_len 0 (length net.arcs))

pub room_begin : (net : NetworkData) (r : ℕ) (u : ℕ → ℕ) (s : ℕ → Bool) (q : ℕ → Option ℕ) → r < net.nodes → u r ≡ 0 → SetAt (λ _. false) s r true → ((x : ℕ) → q x ≡ None) → Room net u s q 1
room_begin net r u s q lt start mark empty = record {
  nodes = λ i ilt is. elim (cases_eq i r) [ inl e ↦ rw (e, start) (omega arith) | inr ne ↦ absurd (false≢true (sym (mark.others i ne) ∙ is)) ];
  items = λ x y is. absurd (let e = empty x in cc);
  counted = sym (range_same (λ i. cond (s i) 1 0) (λ i. cond (r == i) 1 0) 0 net.nodes
      (λ i low high. elim (cases_eq i r) [
        | inl e ↦ rw (e, mark.at, eq-eqb r r refl) refl
        | inr ne ↦ rw (mark.others i ne, ne_eqb r i (λ f. ne (sym f))) refl
      ])
      ∙ one_term (λ _. 1) r 0 net.nodes (omega arith) (omega arith));
}

pub ordered_begin : (net : NetworkData) (r : ℕ) (u : ℕ → ℕ) (s : ℕ → Bool) → r < net.nodes → SetAt (λ _. false) s r true → Ordered net.nodes u s (r ∷ [])
ordered_begin net r u s lt mark = record {
  inside = λ k short. let e : k ≡ 0 = omega arith in rw e (lt, mark.at);
  all = λ i ilt is. elim (cases_eq i r) [ inl e ↦ (0, omega arith, sym e) | inr ne ↦ absurd (false≢true (sym (mark.others i ne) ∙ is)) ];
  sorted = λ j k less short. absurd (omega arith);
}
