-- Sums, bounds and counts through the steps.
use Rattle.std.proofs.Common.{◌≡◌, ◌≢◌, ℕ, zero, suc, ◌+◌, ◌*◌, ◌<◌, ◌≤◌, ◌==◌, ◌&&◌, Bool, true, false, cond, length, Option, None, Some, refl, sym, ◌∙◌, ap, arith, inl, inr}
use Rattle.std.specs.List.{sum_by, range_with_len}
use Rattle.std.proofs.lemmas.Bool.{cases_eq, false≢true, eqb-true}
use Rattle.std.proofs.lemmas.List.Sums.{sum_by-cons}
use Rattle.definitions.specs.Network.{NetworkData, tail_of, weight_of, is_boarding}
use Rattle.definitions.proofs.Sums.{range_le}
use Rattle.label_setting.specs.Queue.{lesser_of}
use Rattle.label_setting.specs.Partway.{leads, carries, Sums, Room, stride}
use Rattle.label_setting.proofs.SumLemmas.{here_more, here_same}
use Rattle.label_setting.proofs.TopLemmas.{carried, carries_from, lesser_within}
use Rattle.label_setting.proofs.ChangeLemmas.{SetAt, same_some}

-- ---- sums

both_same : (x y c d : Bool) → (x ≡ true → y ≡ true → c ≡ d) → (x && (y && c)) ≡ (x && (y && d))
both_same true true c d h = h refl refl
both_same true false c d h = refl
both_same false y c d h = refl

pub carries_same : (net : NetworkData) (these those : ℕ → Bool) (i a : ℕ) → (tail_of net a ≡ i → is_boarding net a ≡ true → those a ≡ these a) → carries net those i a ≡ carries net these i a
carries_same net these those i a h = both_same (tail_of net a == i) (is_boarding net a) (those a) (these a) (λ tail boards. h (eqb-true (tail_of net a) i tail) boards)

pub sums_kept : (net : NetworkData) (u : ℕ → ℕ) (s joins : ℕ → Bool) (f w : ℕ → ℕ) → Sums net u s joins f w →
    (v : ℕ → ℕ) (m : ℕ → Bool) → ((j : ℕ) → m j ≡ false → s j ≡ false) →
    ((b : ℕ) → b < length net.arcs → joins b ≡ true → leads net v b ≡ leads net u b) →
    Sums net v m joins f w
sums_kept net u s joins f w h v m opened lead = record {
  weights = λ j jlt open_j. h.weights j jlt (opened j open_j);
  totals = λ j jlt open_j. h.totals j jlt (opened j open_j)
      ∙ sym (here_same (length net.arcs) (carries net joins j) (carries net joins j) (λ b. weight_of net b * leads net u b) (λ b. weight_of net b * leads net v b) (λ b blt. refl)
      (λ b blt c. ap (λ n. weight_of net b * n) (lead b blt (carried net joins j b c).here)));
}

-- an arc joins
pub sums_join : (net : NetworkData) (u : ℕ → ℕ) (s joins these : ℕ → Bool) (f w : ℕ → ℕ) → Sums net u s joins f w →
    (a y : ℕ) → a < length net.arcs → is_boarding net a ≡ true → joins a ≡ false → leads net u a ≡ y → SetAt joins these a true →
    (g x : ℕ → ℕ) → SetAt f g (tail_of net a) (f (tail_of net a) + weight_of net a) → SetAt w x (tail_of net a) (w (tail_of net a) + weight_of net a * y) →
    Sums net u s these g x
sums_join net u s joins these f w h a y lt boards off at now g x weight total =
    let into : carries net these (tail_of net a) a ≡ true = carries_from net these (tail_of net a) a (record { tail = refl; boards = boards; here = now.at }) in
    let out : carries net joins (tail_of net a) a ≡ false = out_of (carries net joins (tail_of net a) a) (λ c. false≢true (sym off ∙ (carried net joins (tail_of net a) a c).here)) in
    let still : (j b : ℕ) → b ≢ a → carries net these j b ≡ carries net joins j b = λ j b ne. carries_same net joins these j b (λ tail boarded. now.others b ne) in
    let apart_from : (j b : ℕ) → j ≢ tail_of net a → carries net these j b ≡ carries net joins j b = λ j b nj. elim (cases_eq b a) [
      | inl e ↦ carries_same net joins these j b (λ tail boarded. absurd (nj (sym tail ∙ ap (tail_of net) e)))
      | inr ne ↦ still j b ne
    ] in
    record {
      weights = λ j jlt opened. elim (cases_eq j (tail_of net a)) [
        | inl e ↦ rw (e, weight.at) (
            ap (λ n. n + weight_of net a) (rw e at (h.weights j jlt opened))
            ∙ sym (here_more (length net.arcs) (carries net joins (tail_of net a)) (carries net these (tail_of net a)) (weight_of net) a lt out into (λ b blt ne. still (tail_of net a) b ne)))
        | inr ne ↦ weight.others j ne ∙ h.weights j jlt opened
            ∙ sym (here_same (length net.arcs) (carries net joins j) (carries net these j) (weight_of net) (weight_of net) (λ b blt. apart_from j b ne) (λ b blt c. refl))
      ];
      totals = λ j jlt opened. elim (cases_eq j (tail_of net a)) [
        | inl e ↦ rw (e, total.at, ← at) (
            ap (λ n. n + weight_of net a * leads net u a) (rw e at (h.totals j jlt opened))
            ∙ sym (here_more (length net.arcs) (carries net joins (tail_of net a)) (carries net these (tail_of net a)) (λ b. weight_of net b * leads net u b) a lt out into (λ b blt ne. still (tail_of net a) b ne)))
        | inr ne ↦ total.others j ne ∙ h.totals j jlt opened
            ∙ sym (here_same (length net.arcs) (carries net joins j) (carries net these j) (λ b. weight_of net b * leads net u b) (λ b. weight_of net b * leads net u b) (λ b blt. apart_from j b ne) (λ b blt c. refl))
      ];
    }
  where
    out_of : (b : Bool) → (b ≡ true → ⊥) → b ≡ false
    out_of true h = absurd (h refl)
    out_of false h = refl

-- ---- bounds

pub ones : (a n : ℕ) → sum_by (λ _. 1) (range_with_len a n) ≡ n
ones a zero = refl
ones a (suc n) = sum_by-cons (λ _. 1) a (range_with_len (a + 1) n) ∙ ap (λ s. 1 + s) (ones (a + 1) n) ∙ omega arith

one_of : (b : Bool) → cond b 1 0 ≤ 1
one_of true = omega arith
one_of false = omega arith

-- no more nodes are settled than there are
pub room_within : (net : NetworkData) (u : ℕ → ℕ) (s : ℕ → Bool) (q : ℕ → Option ℕ) (n : ℕ) → Room net u s q n → n ≤ net.nodes
room_within net u s q n h =
    let le : sum_by (λ i. cond (s i) 1 0) (range_with_len 0 net.nodes) ≤ sum_by (λ _. 1) (range_with_len 0 net.nodes) =
    range_le (λ i. cond (s i) 1 0) (λ _. 1) 0 net.nodes (λ i low high. one_of (s i)) in
    let all = ones 0 net.nodes in
    let c = h.counted in
    omega arith

pub room_settle : (net : NetworkData) (u : ℕ → ℕ) (s : ℕ → Bool) (q : ℕ → Option ℕ) (n : ℕ) → Room net u s q n →
    (i y : ℕ) → i < net.nodes → s i ≡ false → (x : ℕ) → q x ≡ Some y →
    (v : ℕ → ℕ) (m : ℕ → Bool) (p : ℕ → Option ℕ) → SetAt u v i y → SetAt s m i true → SetAt q p x None → Room net v m p (n + 1)
room_settle net u s q n h i y lt opened x there v m p label mark queue = record {
  nodes = λ j jlt is. elim (cases_eq j i) [
    | inl e ↦ (let f : v j ≡ y = ap v e ∙ label.at in let b = h.items x y there in omega arith)
    | inr ne ↦ (let f = label.others j ne in let b = h.nodes j jlt (sym (mark.others j ne) ∙ is) in omega arith)
  ];
  items = λ z w is. elim (cases_eq z x) [
    | inl e ↦ absurd (let g : p z ≡ None = ap p e ∙ queue.at in cc)
    | inr ne ↦ (let b = h.items z w (sym (queue.others z ne) ∙ is) in omega arith)
  ];
  counted = let more = here_more net.nodes s m (λ _. 1) i lt opened mark.at (λ b blt ne. mark.others b ne) in let c = h.counted in omega arith;
}

pub room_put : (net : NetworkData) (u : ℕ → ℕ) (s : ℕ → Bool) (q : ℕ → Option ℕ) (n : ℕ) → Room net u s q n →
    (p : ℕ → Option ℕ) (x y : ℕ) → SetAt q p x (Some y) → y ≤ n * stride → Room net u s p n
room_put net u s q n h p x y put le = record {
  nodes = h.nodes;
  items = λ z w is. elim (cases_eq z x) [
    | inl e ↦ (let f : w ≡ y = same_some (p x) w y (sym (ap p e) ∙ is) put.at in omega arith)
    | inr ne ↦ h.items z w (sym (put.others z ne) ∙ is)
  ];
  counted = h.counted;
}

pub room_cut : (net : NetworkData) (u : ℕ → ℕ) (s : ℕ → Bool) (q : ℕ → Option ℕ) (n : ℕ) → Room net u s q n →
    (p : ℕ → Option ℕ) (x : ℕ) → SetAt q p x None → Room net u s p n
room_cut net u s q n h p x put = record {
  nodes = h.nodes;
  items = λ z w is. elim (cases_eq z x) [
    | inl e ↦ absurd (let g : p z ≡ None = ap p e ∙ put.at in cc)
    | inr ne ↦ h.items z w (sym (put.others z ne) ∙ is)
  ];
  counted = h.counted;
}

pub lesser_le : (o : Option ℕ) (y : ℕ) → lesser_of o y ≤ y
lesser_le o y = (lesser_within o y (lesser_of o y) (omega arith)).1
