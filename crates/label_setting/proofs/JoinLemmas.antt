-- A boarding arc is taken from the queue, or joins at once: what held partway holds with it.
use Rattle.std.proofs.Common.{◌≡◌, ◌≢◌, ℕ, ◌+◌, ◌/◌, ◌<◌, ◌≤◌, Bool, true, false, length, Option, None, Some, refl, sym, ◌∙◌, ap, arith, inl, inr}
use Rattle.std.proofs.lemmas.Bool.{cases_eq, false≢true}
use Rattle.definitions.specs.Network.{NetworkData, IsWellFormed, tail_of, head_of, weight_of, is_boarding}
use Rattle.label_setting.specs.Queue.{lesser_of}
use Rattle.label_setting.specs.Partway.{weighed, totalled, leads, carries, Within, IsTop, IsLeftOut, Before, Partway}
use Rattle.label_setting.proofs.TopLemmas.{top_kept, top_join}
use Rattle.label_setting.proofs.ChangeLemmas.{SetAt, apart, more_on, before_after, after_first, after_level, after_ge, same_some, reaches_by}
use Rattle.label_setting.proofs.SeeLemmas.{IsSeen, heads_with, closed_with, opened_with, others_lowered}

-- its tail is settled
pub skip : (net : NetworkData) (r : ℕ) (u : ℕ → ℕ) (s seen joins : ℕ → Bool) (q p : ℕ → Option ℕ) (level last : ℕ) → Partway net r u s seen joins q level last →
    (a y : ℕ) → a < length net.arcs → q a ≡ Some y → ((x z : ℕ) → q x ≡ Some z → Before y a z x) → s (tail_of net a) ≡ true →
    SetAt q p a None → Partway net r u s seen joins p y a
skip net r u s seen joins q p level last h a y lt there first tail put =
    let node_same : (j : ℕ) → p (length net.arcs + j) ≡ q (length net.arcs + j) = λ j. put.others (length net.arcs + j) (λ e. omega arith) in
    let above : level ≤ y = after_level level last y a (h.later a y there) in
    record {
      goal = h.goal;
      start = h.start;
      heads = h.heads;
      reaches = h.reaches;
      closed = h.closed;
      opened = λ j jlt opened. rw (node_same j) (h.opened j jlt opened);
      below = λ j jlt is. before_after (u j) (length net.arcs + j) level last y a (h.below j jlt is) (h.later a y there);
      later = λ x z is. elim (cases_eq x a) [
        | inl e ↦ absurd (let g : p x ≡ None = ap p e ∙ put.at in cc)
        | inr ne ↦ after_first y a z x ne (first x z (sym (put.others x ne) ∙ is))
      ];
      joined = h.joined;
      others = λ b blt boards here opened off.
          let ne : b ≢ a = λ e. apart s (tail_of net a) (tail_of net b) tail opened (ap (tail_of net) (sym e)) in
          elim (h.others b blt boards here opened off) [
            | inl queued ↦ inl (put.others b ne ∙ queued)
            | inr past ↦ inr (past.0, node_same (tail_of net b) ∙ past.1, past.2)
          ];
      arcs = λ b z blt is. elim (cases_eq b a) [
        | inl e ↦ absurd (let g : p b ≡ None = ap p e ∙ put.at in cc)
        | inr ne ↦ h.arcs b z blt (sym (put.others b ne) ∙ is)
      ];
      nodes = λ j z jlt is. h.nodes j z jlt (sym (node_same j) ∙ is);
      low = λ b blt boards here opened. let l = h.low b blt boards here opened in omega arith;
    }

-- an arc that joins, what it leads to, and weight and total at its tail with it
pub record IsJoining (net : NetworkData) (u : ℕ → ℕ) (s joins these : ℕ → Bool) (o : Option ℕ) (a y f w : ℕ) : Type 0 where
  pub there : a < length net.arcs
  pub boards : is_boarding net a ≡ true
  pub tail : s (tail_of net a) ≡ false
  pub leads_to : leads net u a ≡ y
  pub within : Within o y
  pub now : SetAt joins these a true
  pub weight : f ≡ weighed (length net.arcs) (carries net these (tail_of net a)) (weight_of net)
  pub total : w ≡ totalled (length net.arcs) (carries net these (tail_of net a)) (weight_of net) (leads net u)
  pub positive : 0 < f

-- what it permits at its tail
join_top : (net : NetworkData) (r : ℕ) (u : ℕ → ℕ) (s seen joins these : ℕ → Bool) (q : ℕ → Option ℕ) (level last a y f w : ℕ) → IsWellFormed net → Partway net r u s seen joins q level last →
    level ≤ y → IsJoining net u s joins these (q (length net.arcs + tail_of net a)) a y f w →
    IsTop net (leads net u) seen these (tail_of net a) (Some (lesser_of (q (length net.arcs + tail_of net a)) ((net.k + w) / f)))
    × (y ≤ lesser_of (q (length net.arcs + tail_of net a)) ((net.k + w) / f))
join_top net r u s seen joins these q level last a y f w sound h above j =
    top_join net (leads net u) seen joins these (tail_of net a) (q (length net.arcs + tail_of net a)) a y f w j.there refl j.boards j.leads_to j.within
    (λ b blt tb boards here. elim (cases_eq b a) [
      | inl e ↦ (let l = j.leads_to in let k : leads net u b ≡ leads net u a = ap (leads net u) e in omega arith)
      | inr ne ↦ (let l = h.low b blt boards (sym (j.now.others b ne) ∙ here) (ap s tb ∙ j.tail) in omega arith)
    ])
    (λ b blt boards ne. j.now.others b ne)
    (λ b blt boards here. more_on joins these a j.now b here)
    j.weight j.total j.positive (h.opened (tail_of net a) (sound.tails a j.there) j.tail)

-- at other nodes nothing changes
join_elsewhere : (net : NetworkData) (u : ℕ → ℕ) (seen joins these : ℕ → Bool) (a j : ℕ) (o : Option ℕ) → SetAt joins these a true → j ≢ tail_of net a →
    IsTop net (leads net u) seen joins j o → IsTop net (leads net u) seen these j o
join_elsewhere net u seen joins these a j o now ne top =
    let elsewhere : (b : ℕ) → tail_of net b ≡ j → b ≢ a = λ b tb e. ne (sym tb ∙ ap (tail_of net) e) in
    top_kept net (leads net u) seen joins (leads net u) seen these j o (record {
      up = λ b blt tb free here. (here, refl);
      joined = λ b blt tb boards here. (now.others b (elsewhere b tb) ∙ here, refl);
      down = λ b blt tb free here. inr (here, refl);
      left = λ b blt tb boards here. inr (sym (now.others b (elsewhere b tb)) ∙ here, refl);
    }) top

-- one that is off among these is another, and was off
off_before : (joins these : ℕ → Bool) (a b : ℕ) → SetAt joins these a true → these b ≡ false → (b ≢ a) × (joins b ≡ false)
off_before joins these a b now off =
    let ne : b ≢ a = λ e. false≢true (sym off ∙ ap these e ∙ now.at) in
    (ne, sym (now.others b ne) ∙ off)

-- its tail is open: it joins those that wait there
pub join : (net : NetworkData) (r : ℕ) (u : ℕ → ℕ) (s seen joins these : ℕ → Bool) (q d p : ℕ → Option ℕ) (level last a y f w : ℕ) → IsWellFormed net → Partway net r u s seen joins q level last →
    q a ≡ Some y → ((x z : ℕ) → q x ≡ Some z → Before y a z x) → SetAt q d a None →
    SetAt d p (length net.arcs + tail_of net a) (Some (lesser_of (d (length net.arcs + tail_of net a)) ((net.k + w) / f))) →
    IsJoining net u s joins these (q (length net.arcs + tail_of net a)) a y f w →
    Partway net r u s seen these p y a
join net r u s seen joins these q d p level last a y f w sound h there first cut put j =
    let lt = j.there in
    let node : ℕ = length net.arcs + tail_of net a in
    let d_node : d node ≡ q node = cut.others node (λ e. omega arith) in
    let put_q : p node ≡ Some (lesser_of (q node) ((net.k + w) / f)) = put.at ∙ ap (λ o. Some (lesser_of o ((net.k + w) / f))) d_node in
    let arc_other : (b : ℕ) → b < length net.arcs → b ≢ a → p b ≡ q b = λ b blt ne. put.others b (λ e. omega arith) ∙ cut.others b ne in
    let gone : p a ≡ None = put.others a (λ e. omega arith) ∙ cut.at in
    let node_other : (k : ℕ) → k ≢ tail_of net a → p (length net.arcs + k) ≡ q (length net.arcs + k) = λ k ne. put.others (length net.arcs + k) (λ e. ne (omega arith)) ∙ cut.others (length net.arcs + k) (λ e. omega arith) in
    let above : level ≤ y = after_level level last y a (h.later a y there) in
    let arc = h.arcs a y lt there in
    let top = join_top net r u s seen joins these q level last a y f w sound h above j in
    record {
      goal = h.goal;
      start = h.start;
      heads = h.heads;
      reaches = h.reaches;
      closed = h.closed;
      opened = λ k klt opened. elim (cases_eq k (tail_of net a)) [
        | inl e ↦ rw (e, put_q) top.0
        | inr ne ↦ rw (node_other k ne) (join_elsewhere net u seen joins these a k (q (length net.arcs + k)) j.now ne (h.opened k klt opened))
      ];
      below = λ k klt is. before_after (u k) (length net.arcs + k) level last y a (h.below k klt is) (h.later a y there);
      later = λ x z is. elim (cases_eq x node) [
        | inl e ↦ (
            let g : z ≡ lesser_of (q node) ((net.k + w) / f) = same_some (p node) z _ (sym (ap p e) ∙ is) put_q in
            rw (e, g) (after_ge y a (lesser_of (q node) ((net.k + w) / f)) node top.1 (omega arith)))
        | inr nn ↦ elim (cases_eq x a) [
          | inl e ↦ absurd (let g : p x ≡ None = ap p e ∙ gone in cc)
          | inr ne ↦ after_first y a z x ne (first x z (sym (put.others x nn ∙ cut.others x ne) ∙ is))
        ]
      ];
      joined = λ b on. elim (cases_eq b a) [ inl e ↦ rw e arc.1 | inr ne ↦ h.joined b (sym (j.now.others b ne) ∙ on) ];
      others = λ b blt boards here opened off.
          let was = off_before joins these a b j.now off in
          let d_left : IsLeftOut net u d b = elim (h.others b blt boards here opened was.1) [
            | inl queued ↦ inl (cut.others b was.0 ∙ queued)
            | inr past ↦ inr (past.0, cut.others (length net.arcs + tail_of net b) (λ e. omega arith) ∙ past.1, past.2)
          ] in
          others_lowered net u d p (tail_of net a) ((net.k + w) / f) b put blt d_left;
      arcs = λ b z blt is. elim (cases_eq b a) [
        | inl e ↦ absurd (let g : p b ≡ None = ap p e ∙ gone in cc)
        | inr ne ↦ (let old = h.arcs b z blt (sym (arc_other b blt ne) ∙ is) in (old.0, old.1, j.now.others b ne ∙ old.2, old.3))
      ];
      nodes = λ k z klt is. elim (cases_eq k (tail_of net a)) [
        | inl e ↦ rw e (j.tail, reaches_by net r a lt (h.reaches (head_of net a) (sound.heads a lt) (h.heads a arc.1).1))
        | inr ne ↦ h.nodes k z klt (sym (node_other k ne) ∙ is)
      ];
      low = λ b blt boards here opened. elim (cases_eq b a) [
        | inl e ↦ (let l = j.leads_to in let k : leads net u b ≡ leads net u a = ap (leads net u) e in omega arith)
        | inr ne ↦ (let l = h.low b blt boards (sym (j.now.others b ne) ∙ here) opened in omega arith)
      ];
    }

-- an arc that is seen and leads one tick past the last label joins at once
pub join_now : (net : NetworkData) (r : ℕ) (u : ℕ → ℕ) (s seen joins saw these : ℕ → Bool) (q p : ℕ → Option ℕ) (level last a f w : ℕ) → IsWellFormed net → Partway net r u s seen joins q level last →
    IsSeen net u s seen saw level a →
    SetAt q p (length net.arcs + tail_of net a) (Some (lesser_of (q (length net.arcs + tail_of net a)) ((net.k + w) / f))) →
    IsJoining net u s joins these (q (length net.arcs + tail_of net a)) a (level + 1) f w →
    Partway net r u s saw these p level last
join_now net r u s seen joins saw these q p level last a f w sound h see put j =
    let lt = j.there in
    let node : ℕ = length net.arcs + tail_of net a in
    let arc_same : (b : ℕ) → b < length net.arcs → p b ≡ q b = λ b blt. put.others b (λ e. omega arith) in
    let node_other : (k : ℕ) → k ≢ tail_of net a → p (length net.arcs + k) ≡ q (length net.arcs + k) = λ k ne. put.others (length net.arcs + k) (λ e. ne (omega arith)) in
    let top = join_top net r u s seen joins these q level last a (level + 1) f w sound h (omega arith) j in
    record {
      goal = h.goal;
      start = h.start;
      heads = heads_with net u s seen saw level a see h.heads;
      reaches = h.reaches;
      closed = closed_with net r u s seen joins saw q level last a sound h see;
      opened = λ k klt opened. elim (cases_eq k (tail_of net a)) [
        | inl e ↦ rw (e, put.at) (opened_with net u s seen these saw level a (Some (lesser_of (q node) ((net.k + w) / f))) see (tail_of net a) (λ tail. j.boards) top.0)
        | inr ne ↦ rw (node_other k ne) (opened_with net u s seen these saw level a (q (length net.arcs + k)) see k (λ tail. j.boards)
            (join_elsewhere net u seen joins these a k (q (length net.arcs + k)) j.now ne (h.opened k klt opened)))
      ];
      below = h.below;
      later = λ x z is. elim (cases_eq x node) [
        | inl e ↦ (
            let g : z ≡ lesser_of (q node) ((net.k + w) / f) = same_some (p node) z _ (sym (ap p e) ∙ is) put.at in
            let m = top.1 in inl (omega arith))
        | inr ne ↦ h.later x z (sym (put.others x ne) ∙ is)
      ];
      joined = λ b on. elim (cases_eq b a) [ inl e ↦ rw e see.now.at | inr ne ↦ more_on seen saw a see.now b (h.joined b (sym (j.now.others b ne) ∙ on)) ];
      others = λ b blt boards here opened off.
          let was = off_before joins these a b j.now off in
          others_lowered net u q p (tail_of net a) ((net.k + w) / f) b put blt (h.others b blt boards (sym (see.now.others b was.0) ∙ here) opened was.1);
      arcs = λ b z blt is.
          let old = h.arcs b z blt (sym (arc_same b blt) ∙ is) in
          let ne : b ≢ a = apart seen b a old.1 see.unseen in
          (old.0, more_on seen saw a see.now b old.1, j.now.others b ne ∙ old.2, old.3);
      nodes = λ k z klt is. elim (cases_eq k (tail_of net a)) [
        | inl e ↦ rw e (j.tail, reaches_by net r a lt (h.reaches (head_of net a) (sound.heads a lt) see.head))
        | inr ne ↦ h.nodes k z klt (sym (node_other k ne) ∙ is)
      ];
      low = λ b blt boards here opened. elim (cases_eq b a) [
        | inl e ↦ (let l = j.leads_to in let k : leads net u b ≡ leads net u a = ap (leads net u) e in omega arith)
        | inr ne ↦ h.low b blt boards (sym (j.now.others b ne) ∙ here) opened
      ];
    }
