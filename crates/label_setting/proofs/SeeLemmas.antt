-- An arc into a settled node is seen: what held partway holds with it.
use Rattle.std.proofs.Common.{◌≡◌, ◌≢◌, ℕ, ◌+◌, ◌<◌, ◌≤◌, Bool, true, false, length, Option, Some, refl, sym, ◌∙◌, ap, arith, inl, inr, ◌⊎◌}
use Rattle.std.proofs.lemmas.Bool.{cases_eq, false≢true, false_from_ne_true}
use Rattle.definitions.specs.Network.{NetworkData, IsWellFormed, tail_of, head_of, is_boarding}
use Rattle.label_setting.specs.Queue.{lesser_of}
use Rattle.label_setting.specs.Partway.{leads, IsTop, IsLeftOut, Partway}
use Rattle.label_setting.proofs.TopLemmas.{top_kept, top_free}
use Rattle.label_setting.proofs.ChangeLemmas.{SetAt, more_on, before_level, same_some, after_lesser, lesser_past, reaches_by}

-- an arc that comes to be seen, and leads to a node with the last label
pub record IsSeen (net : NetworkData) (u : ℕ → ℕ) (s seen these : ℕ → Bool) (level a : ℕ) : Type 0 where
  pub there : a < length net.arcs
  pub head : s (head_of net a) ≡ true
  pub label : u (head_of net a) ≡ level
  pub now : SetAt seen these a true
  pub unseen : seen a ≡ false

pub heads_with : (net : NetworkData) (u : ℕ → ℕ) (s seen these : ℕ → Bool) (level a : ℕ) → IsSeen net u s seen these level a →
    ((b : ℕ) → seen b ≡ true → (b < length net.arcs) × (s (head_of net b) ≡ true)) → (b : ℕ) → these b ≡ true → (b < length net.arcs) × (s (head_of net b) ≡ true)
heads_with net u s seen these level a see heads b here = elim (cases_eq b a) [
  | inl e ↦ rw e (see.there, see.head)
  | inr ne ↦ heads b (sym (see.now.others b ne) ∙ here)
]

-- it leads past the labels so far
pub leads_past : (net : NetworkData) (u : ℕ → ℕ) (s seen these : ℕ → Bool) (level a : ℕ) → IsWellFormed net → IsSeen net u s seen these level a → level < leads net u a
leads_past net u s seen these level a sound see = let c = sound.costs a see.there in let e = see.label in omega arith

-- the labels of settled nodes stay what is permitted
pub closed_with : (net : NetworkData) (r : ℕ) (u : ℕ → ℕ) (s seen joins these : ℕ → Bool) (q : ℕ → Option ℕ) (level last a : ℕ) → IsWellFormed net → Partway net r u s seen joins q level last →
    IsSeen net u s seen these level a → (j : ℕ) → j < net.nodes → s j ≡ true → j ≢ r → IsTop net (leads net u) these these j (Some (u j))
closed_with net r u s seen joins these q level last a sound h see j jlt is ne =
    let under : (b : ℕ) → these b ≡ true → ((w : ℕ) → w ≤ u j → w ≤ leads net u b) ⊎ ((seen b ≡ true) × (leads net u b ≡ leads net u b)) = λ b here.
    elim (cases_eq b a) [
      | inl e ↦ inl (λ w le. let l = leads_past net u s seen these level a sound see in let f = before_level (u j) (length net.arcs + j) level last (h.below j jlt is) in let g : leads net u b ≡ leads net u a = ap (leads net u) e in omega arith)
      | inr nb ↦ inr (sym (see.now.others b nb) ∙ here, refl)
    ] in
    top_kept net (leads net u) seen seen (leads net u) these these j (Some (u j)) (record {
      up = λ b blt tb free here. (more_on seen these a see.now b here, refl);
      joined = λ b blt tb boards here. (more_on seen these a see.now b here, refl);
      down = λ b blt tb free here. under b here;
      left = λ b blt tb boards here. under b here;
    }) (h.closed j jlt is ne)

-- an arc that joined is another
pub not_joined : (net : NetworkData) (u : ℕ → ℕ) (s seen joins these : ℕ → Bool) (level a : ℕ) → IsSeen net u s seen these level a → ((b : ℕ) → joins b ≡ true → seen b ≡ true) → joins a ≡ false
not_joined net u s seen joins these level a see joined = false_from_ne_true (joins a) (λ on. false≢true (sym see.unseen ∙ joined a on))

-- an arc that is not free changes nothing at open nodes as long as it does not join
pub opened_with : (net : NetworkData) (u : ℕ → ℕ) (s seen joins these : ℕ → Bool) (level a : ℕ) (o : Option ℕ) → IsSeen net u s seen these level a →
    (j : ℕ) → (tail_of net a ≡ j → is_boarding net a ≡ true) → IsTop net (leads net u) seen joins j o → IsTop net (leads net u) these joins j o
opened_with net u s seen joins these level a o see j boards top = top_kept net (leads net u) seen joins (leads net u) these joins j o (record {
  up = λ b blt tb free here. (more_on seen these a see.now b here, refl);
  joined = λ b blt tb board here. (here, refl);
  down = λ b blt tb free here. elim (cases_eq b a) [
    | inl e ↦ absurd (false≢true (sym free ∙ ap (is_boarding net) e ∙ boards (ap (tail_of net) (sym e) ∙ tb)))
    | inr ne ↦ inr (sym (see.now.others b ne) ∙ here, refl)
  ];
  left = λ b blt tb board here. inr (here, refl);
}) top

-- a boarding arc whose tail is settled, or has a number that is no higher than what the arc leads to; or a free arc whose tail is settled
pub pass : (net : NetworkData) (r : ℕ) (u : ℕ → ℕ) (s seen joins these : ℕ → Bool) (q : ℕ → Option ℕ) (level last a : ℕ) → IsWellFormed net → Partway net r u s seen joins q level last →
    IsSeen net u s seen these level a → (s (tail_of net a) ≡ false → (is_boarding net a ≡ true) × IsLeftOut net u q a) →
    Partway net r u s these joins q level last
pass net r u s seen joins these q level last a sound h see out = record {
  goal = h.goal;
  start = h.start;
  heads = heads_with net u s seen these level a see h.heads;
  reaches = h.reaches;
  closed = closed_with net r u s seen joins these q level last a sound h see;
  opened = λ j jlt opened. opened_with net u s seen joins these level a (q (length net.arcs + j)) see j (λ tail. (out (ap s tail ∙ opened)).0) (h.opened j jlt opened);
  below = h.below;
  later = h.later;
  joined = λ b on. more_on seen these a see.now b (h.joined b on);
  others = λ b blt boards here opened off. elim (cases_eq b a) [
    | inl e ↦ rw e (out (ap (λ x. s (tail_of net x)) (sym e) ∙ opened)).1
    | inr ne ↦ h.others b blt boards (sym (see.now.others b ne) ∙ here) opened off
  ];
  arcs = λ b y blt is. let old = h.arcs b y blt is in (old.0, more_on seen these a see.now b old.1, old.2, old.3);
  nodes = h.nodes;
  low = h.low;
}

-- a boarding arc that goes into the queue
pub enqueue : (net : NetworkData) (r : ℕ) (u : ℕ → ℕ) (s seen joins these : ℕ → Bool) (q p : ℕ → Option ℕ) (level last a : ℕ) → IsWellFormed net → Partway net r u s seen joins q level last →
    IsSeen net u s seen these level a → is_boarding net a ≡ true → SetAt q p a (Some (leads net u a)) →
    Partway net r u s these joins p level last
enqueue net r u s seen joins these q p level last a sound h see boards put =
    let node_same : (j : ℕ) → p (length net.arcs + j) ≡ q (length net.arcs + j) = λ j. let lt = see.there in put.others (length net.arcs + j) (λ e. omega arith) in
    record {
      goal = h.goal;
      start = h.start;
      heads = heads_with net u s seen these level a see h.heads;
      reaches = h.reaches;
      closed = closed_with net r u s seen joins these q level last a sound h see;
      opened = λ j jlt opened. rw (node_same j) (opened_with net u s seen joins these level a (q (length net.arcs + j)) see j (λ tail. boards) (h.opened j jlt opened));
      below = h.below;
      later = λ x y is. elim (cases_eq x a) [
        | inl e ↦ (
            let l = leads_past net u s seen these level a sound see in
            let f : y ≡ leads net u a = same_some (p a) y (leads net u a) (sym (ap p e) ∙ is) put.at in
            inl (omega arith))
        | inr ne ↦ h.later x y (sym (put.others x ne) ∙ is)
      ];
      joined = λ b on. more_on seen these a see.now b (h.joined b on);
      others = λ b blt board here opened off. elim (cases_eq b a) [
        | inl e ↦ inl (rw e put.at)
        | inr ne ↦ elim (h.others b blt board (sym (see.now.others b ne) ∙ here) opened off) [
          | inl queued ↦ inl (put.others b ne ∙ queued)
          | inr past ↦ inr (past.0, node_same (tail_of net b) ∙ past.1, past.2)
        ]
      ];
      arcs = λ b y blt is. elim (cases_eq b a) [
        | inl e ↦ rw e (boards, see.now.at, not_joined net u s seen joins these level a see h.joined, same_some (p a) y (leads net u a) (sym (ap p e) ∙ is) put.at)
        | inr ne ↦ (let old = h.arcs b y blt (sym (put.others b ne) ∙ is) in (old.0, more_on seen these a see.now b old.1, old.2, old.3))
      ];
      nodes = λ j y jlt is. h.nodes j y jlt (sym (node_same j) ∙ is);
      low = h.low;
    }

-- a number that an open node has at most leaves out what it left out before
pub others_lowered : (net : NetworkData) (u : ℕ → ℕ) (q p : ℕ → Option ℕ) (i y b : ℕ) → SetAt q p (length net.arcs + i) (Some (lesser_of (q (length net.arcs + i)) y)) → b < length net.arcs →
    IsLeftOut net u q b → IsLeftOut net u p b
others_lowered net u q p i y b put blt left = elim left [
  | inl queued ↦ inl (put.others b (λ e. omega arith) ∙ queued)
  | inr past ↦ elim (cases_eq (tail_of net b) i) [
    | inl e ↦ inr (
      lesser_of (q (length net.arcs + i)) y,
      ap (λ j. p (length net.arcs + j)) e ∙ put.at,
      lesser_past (q (length net.arcs + i)) past.0 y (leads net u b) (ap (λ j. q (length net.arcs + j)) (sym e) ∙ past.1) past.2,
    )
    | inr ne ↦ inr (past.0, put.others (length net.arcs + tail_of net b) (λ e. ne (omega arith)) ∙ past.1, past.2)
  ]
]

-- a free arc whose tail is open: it bounds the tail
pub bound : (net : NetworkData) (r : ℕ) (u : ℕ → ℕ) (s seen joins these : ℕ → Bool) (q p : ℕ → Option ℕ) (level last a : ℕ) → IsWellFormed net → Partway net r u s seen joins q level last →
    IsSeen net u s seen these level a → s (tail_of net a) ≡ false → is_boarding net a ≡ false →
    SetAt q p (length net.arcs + tail_of net a) (Some (lesser_of (q (length net.arcs + tail_of net a)) (leads net u a))) →
    Partway net r u s these joins p level last
bound net r u s seen joins these q p level last a sound h see tail free put =
    let lt = see.there in
    let arc_same : (b : ℕ) → b < length net.arcs → p b ≡ q b = λ b blt. put.others b (λ e. omega arith) in
    let l : level < leads net u a = leads_past net u s seen these level a sound see in
    record {
      goal = h.goal;
      start = h.start;
      heads = heads_with net u s seen these level a see h.heads;
      reaches = h.reaches;
      closed = closed_with net r u s seen joins these q level last a sound h see;
      opened = λ j jlt opened. elim (cases_eq j (tail_of net a)) [
        | inl e ↦ rw (e, put.at) (top_free net (leads net u) seen joins these joins (tail_of net a) (q (length net.arcs + tail_of net a)) a lt refl free see.now.at
            (λ b blt ne. see.now.others b ne) (λ b blt board. refl) (more_on seen these a see.now) (h.opened (tail_of net a) (sound.tails a lt) tail))
        | inr ne ↦ rw (put.others (length net.arcs + j) (λ e. ne (omega arith)))
            (opened_with net u s seen joins these level a (q (length net.arcs + j)) see j (λ tb. absurd (ne (sym tb))) (h.opened j jlt opened))
      ];
      below = h.below;
      later = λ x y is. elim (cases_eq x (length net.arcs + tail_of net a)) [
        | inl e ↦ (
            let f : y ≡ lesser_of (q (length net.arcs + tail_of net a)) (leads net u a) = same_some (p (length net.arcs + tail_of net a)) y _ (sym (ap p e) ∙ is) put.at in
            rw (e, f) (after_lesser (q (length net.arcs + tail_of net a)) level last (leads net u a) (length net.arcs + tail_of net a) (h.later (length net.arcs + tail_of net a)) (inl l)))
        | inr ne ↦ h.later x y (sym (put.others x ne) ∙ is)
      ];
      joined = λ b on. more_on seen these a see.now b (h.joined b on);
      others = λ b blt board here opened off. elim (cases_eq b a) [
        | inl e ↦ absurd (false≢true (sym free ∙ ap (is_boarding net) (sym e) ∙ board))
        | inr ne ↦ others_lowered net u q p (tail_of net a) (leads net u a) b put blt (h.others b blt board (sym (see.now.others b ne) ∙ here) opened off)
      ];
      arcs = λ b y blt is. let old = h.arcs b y blt (sym (arc_same b blt) ∙ is) in (old.0, more_on seen these a see.now b old.1, old.2, old.3);
      nodes = λ j y jlt is. elim (cases_eq j (tail_of net a)) [
        | inl e ↦ rw e (tail, reaches_by net r a lt (h.reaches (head_of net a) (sound.heads a lt) see.head))
        | inr ne ↦ h.nodes j y jlt (sym (put.others (length net.arcs + j) (λ e. ne (omega arith))) ∙ is)
      ];
      low = h.low;
    }
