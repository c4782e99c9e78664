-- A node is settled: what held partway holds with it.
use Rattle.std.proofs.Common.{◌≡◌, ◌≢◌, ℕ, ◌+◌, ◌<◌, ◌≤◌, Bool, true, false, length, Option, None, Some, refl, sym, ◌∙◌, ap, arith, inl, inr}
use Rattle.std.proofs.lemmas.Bool.{cases_eq, cases_Bool, false≢true}
use Rattle.definitions.specs.Network.{NetworkData, tail_of, head_of, cost_of}
use Rattle.label_setting.specs.Partway.{leads, Before, Partway}
use Rattle.label_setting.proofs.TopLemmas.{top_kept}
use Rattle.label_setting.proofs.ChangeLemmas.{SetAt, apart, before_after, after_first, after_level, before_level, same_some}

pub settle : (net : NetworkData) (r : ℕ) (u : ℕ → ℕ) (s seen joins : ℕ → Bool) (q : ℕ → Option ℕ) (level last : ℕ) → Partway net r u s seen joins q level last →
    (i y : ℕ) → i < net.nodes → q (length net.arcs + i) ≡ Some y → ((x z : ℕ) → q x ≡ Some z → Before y (length net.arcs + i) z x) →
    (v : ℕ → ℕ) (m : ℕ → Bool) (p : ℕ → Option ℕ) → SetAt u v i y → SetAt s m i true → SetAt q p (length net.arcs + i) None →
    Partway net r v m seen joins p y (length net.arcs + i)
settle net r u s seen joins q level last h i y lt there first v m p label mark queue =
    let open_i : s i ≡ false = (h.nodes i y lt there).0 in
    let same_lead : (a : ℕ) → seen a ≡ true → leads net v a ≡ leads net u a = λ a here.
    ap (λ n. n + cost_of net a) (label.others (head_of net a) (apart s (head_of net a) i (h.heads a here).1 open_i)) in
    let arc_same : (a : ℕ) → a < length net.arcs → p a ≡ q a = λ a alt. queue.others a (λ e. omega arith) in
    let was_open : (j : ℕ) → m j ≡ false → (j ≢ i) × (s j ≡ false) = λ j opened.
    let ne : j ≢ i = λ e. false≢true (sym opened ∙ ap m e ∙ mark.at) in (ne, sym (mark.others j ne) ∙ opened) in
    let node_same : (j : ℕ) → j ≢ i → p (length net.arcs + j) ≡ q (length net.arcs + j) = λ j ne. queue.others (length net.arcs + j) (λ e. omega arith) in
    let above : level ≤ y = after_level level last y (length net.arcs + i) (h.later (length net.arcs + i) y there) in
    record {
      goal = mark.others r (apart s r i h.goal open_i) ∙ h.goal;
      start = label.others r (apart s r i h.goal open_i) ∙ h.start;
      heads = λ a here. ((h.heads a here).0, mark.others (head_of net a) (apart s (head_of net a) i (h.heads a here).1 open_i) ∙ (h.heads a here).1);
      reaches = λ j jlt settled. elim (cases_eq j i) [
        | inl e ↦ rw e (h.nodes i y lt there).1
        | inr ne ↦ h.reaches j jlt (sym (mark.others j ne) ∙ settled)
      ];
      closed = λ j jlt settled ne_r. elim (cases_eq j i) [
        | inl e ↦ rw (e, label.at) (top_kept net (leads net u) seen joins (leads net v) seen seen i (Some y) (record {
          up = λ a alt tail free here. (here, same_lead a here);
          joined = λ a alt tail boards here. (h.joined a here, same_lead a (h.joined a here));
          down = λ a alt tail free here. inr (here, same_lead a here);
          left = λ a alt tail boards here. elim (cases_Bool (joins a)) [
            | inl on ↦ inr (on, same_lead a here)
            | inr off ↦ inl (λ w le.
                let e2 = same_lead a here in
                elim (h.others a alt boards here (ap s tail ∙ open_i) off) [
                  | inl queued ↦ (let b : y ≤ leads net u a = before_level y (length net.arcs + i) (leads net u a) a (first a (leads net u a) queued) in omega arith)
                  | inr past ↦ (
                      let f : past.0 ≡ y = same_some (q (length net.arcs + i)) past.0 y (ap (λ j. q (length net.arcs + j)) (sym tail) ∙ past.1) there in
                      let g = past.2 in omega arith)
                ])
          ];
        }) (rw there at (h.opened i lt open_i)))
        | inr ne ↦ rw (label.others j ne) (top_kept net (leads net u) seen seen (leads net v) seen seen j (Some (u j)) (record {
          up = λ a alt tail free here. (here, same_lead a here);
          joined = λ a alt tail boards here. (here, same_lead a here);
          down = λ a alt tail free here. inr (here, same_lead a here);
          left = λ a alt tail boards here. inr (here, same_lead a here);
        }) (h.closed j jlt (sym (mark.others j ne) ∙ settled) ne_r))
      ];
      opened = λ j jlt opened. let was = was_open j opened in
          rw (node_same j was.0)
          (top_kept net (leads net u) seen joins (leads net v) seen joins j (q (length net.arcs + j)) (record {
            up = λ a alt tail free here. (here, same_lead a here);
            joined = λ a alt tail boards here. (here, same_lead a (h.joined a here));
            down = λ a alt tail free here. inr (here, same_lead a here);
            left = λ a alt tail boards here. inr (here, same_lead a (h.joined a here));
          }) (h.opened j jlt was.1));
      below = λ j jlt settled. elim (cases_eq j i) [
        | inl e ↦ rw (e, label.at) (inr (refl, omega arith))
        | inr ne ↦ rw (label.others j ne) (before_after (u j) (length net.arcs + j) level last y (length net.arcs + i)
            (h.below j jlt (sym (mark.others j ne) ∙ settled)) (h.later (length net.arcs + i) y there))
      ];
      later = λ x z is. elim (cases_eq x (length net.arcs + i)) [
        | inl e ↦ absurd (let g : p x ≡ None = ap p e ∙ queue.at in cc)
        | inr ne ↦ after_first y (length net.arcs + i) z x ne (first x z (sym (queue.others x ne) ∙ is))
      ];
      joined = h.joined;
      others = λ a alt boards here opened off.
          let was = was_open (tail_of net a) opened in
          elim (h.others a alt boards here was.1 off) [
            | inl queued ↦ inl (arc_same a alt ∙ queued ∙ ap (λ n. Some n) (sym (same_lead a here)))
            | inr past ↦ (let e = same_lead a here in let g = past.2 in inr (past.0, node_same (tail_of net a) was.0 ∙ past.1, omega arith))
          ];
      arcs = λ a z alt is. let old = h.arcs a z alt (sym (arc_same a alt) ∙ is) in (old.0, old.1, old.2, old.3 ∙ sym (same_lead a old.1));
      nodes = λ j z jlt is. elim (cases_eq j i) [
        | inl e ↦ absurd (let g : p (length net.arcs + j) ≡ None = ap (λ k. p (length net.arcs + k)) e ∙ queue.at in cc)
        | inr ne ↦ (let old = h.nodes j z jlt (sym (node_same j ne) ∙ is) in (mark.others j ne ∙ old.0, old.1))
      ];
      low = λ a alt boards here opened.
          let l = h.low a alt boards here (was_open (tail_of net a) opened).1 in
          let e = same_lead a (h.joined a here) in
          omega arith;
    }
