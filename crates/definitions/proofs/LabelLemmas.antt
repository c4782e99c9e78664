-- Reach and labels are unique, by induction on labels, and the labels are dual feasible.
use Rattle.std.proofs.Common.{◌≡◌, ◌≢◌, ℕ, zero, suc, ◌+◌, ◌-◌, ◌*◌, ◌<◌, ◌≤◌, ◌==◌, ◌&&◌, Bool, true, false, cond, List, ◌∷◌, length, get_or, refl, sym, ◌∙◌, ap, arith, inl, inr, ◌⊎◌}
use Rattle.std.specs.List.{sum_by}
use Rattle.std.proofs.lemmas.Bool.Decides.{eqb_tells}
use Rattle.std.proofs.lemmas.Bool.{cases_lt, cases_Bool, and_parts, eqb-true, false≢true, false_from_ne_true}
use Rattle.std.proofs.lemmas.Grind.{same_number_lists}
use Rattle.std.proofs.lemmas.List.{ext_get_or}
use Rattle.definitions.specs.Network.{NetworkData, IsWellFormed, tail_of, head_of, cost_of, weight_of, is_boarding, arc_numbers}
use Rattle.definitions.specs.Dual.{saving, time_through}
use Rattle.definitions.specs.Reach.{Reaches, is_reached}
use Rattle.definitions.specs.Labels.{SolvesLabels, Permits}
use Rattle.definitions.specs.LabelLaws.{ReachIsUnique, LabelsAreUnique, LabelsAreDual}
use Rattle.definitions.proofs.SavingLemmas.{saved, saved_le, saved_is, bears}
use Rattle.definitions.proofs.DualityLemmas.{spread}
use Rattle.definitions.proofs.Sums.{range_le, sum_by-none}

-- what an arc that bears is
record IsBearing (net : NetworkData) (reached : List Bool) (i a : ℕ) : Type 0 where
  tail : tail_of net a ≡ i
  boards : is_boarding net a ≡ true
  head : is_reached reached (head_of net a) ≡ true

bearing : (net : NetworkData) (reached : List Bool) (i a : ℕ) → bears net reached i a ≡ true → IsBearing net reached i a
bearing net reached i a h =
    let outer = and_parts (tail_of net a == i) (is_boarding net a && is_reached reached (head_of net a)) h in
    let inner = and_parts (is_boarding net a) (is_reached reached (head_of net a)) outer.1 in
    record { tail = eqb-true (tail_of net a) i outer.0; boards = inner.0; head = inner.1 }

-- ---- unique

pub reach_unique : ReachIsUnique
reach_unique net r s m left right = ext_get_or false s m (left.mark_per_node ∙ sym right.mark_per_node) (λ i short.
    let lt : i < net.nodes = let e = left.mark_per_node in omega arith in
    elim (cases_Bool (is_reached s i)) [
      | inl here ↦ here ∙ sym ((right.exact i lt).1 ((left.exact i lt).0 here))
      | inr gone ↦ gone ∙ sym (false_from_ne_true (is_reached m i) (λ there. false≢true (sym gone ∙ (left.exact i lt).1 ((right.exact i lt).0 there))))
    ])

-- where the labels below l agree, a label of l is not exceeded
not_above : (net : NetworkData) (r : ℕ) (s : List Bool) (u v : List ℕ) → IsWellFormed net → SolvesLabels net r s u → SolvesLabels net r s v → (l : ℕ) →
    ((i : ℕ) → i < net.nodes → is_reached s i ≡ true → get_or u i 0 < l → get_or v i 0 ≡ get_or u i 0) →
    (i : ℕ) → i < net.nodes → i ≢ r → is_reached s i ≡ true → get_or u i 0 ≡ l → get_or v i 0 ≤ l
not_above net r s u v sound us vs l below i lt ne marked at = elim (cases_lt l (get_or v i 0)) [
  | inr under ↦ under
  | inl over ↦ absurd (
      let there : Permits net s v i (get_or v i 0) = (vs.reaching i lt ne marked).permitted in
      -- an arc whose head's label is below l leads to the same
      let leads : (a : ℕ) → a < length net.arcs → is_reached s (head_of net a) ≡ true → (l + 1 ≤ time_through net u a) ⊎ (time_through net v a ≡ time_through net u a) = λ a within head.
      let cost : 0 < cost_of net a = sound.costs a within in
      elim (cases_lt (get_or u (head_of net a) 0) l) [
        | inl low ↦ inr (ap (λ n. n + cost_of net a) (below (head_of net a) (sound.heads a within) head low))
        | inr high ↦ inl (omega arith)
      ] in
      let price : saved (length net.arcs) (bears net s i) (weight_of net) (time_through net u) (l + 1) ≤ saved (length net.arcs) (bears net s i) (weight_of net) (time_through net v) (get_or v i 0) =
      saved_le (length net.arcs) (bears net s i) (bears net s i) (weight_of net) (time_through net u) (time_through net v) (l + 1) (get_or v i 0) (omega arith)
      (λ a within h. elim (leads a within (bearing net s i a h).head) [ inl high ↦ inl high | inr e ↦ inr (h, omega (arith, e)) ]) in
      let more : l + 1 ≤ get_or u i 0 = (us.reaching i lt ne marked).greatest (l + 1) (record {
        free = λ a within tail head free. elim (leads a within head) [
          | inl high ↦ high
          | inr e ↦ (let f : get_or v i 0 ≤ time_through net v a = there.free a within tail head free in omega (arith, e, f))
        ];
        boarding = rw (saved_is net s u i (l + 1)) (let w = there.boarding in let e = saved_is net s v i (get_or v i 0) in omega (arith, w, e, price));
      }) in
      omega arith)
]

-- labels that one of two solutions has below l are the other's too
record Agree (net : NetworkData) (s : List Bool) (u v : List ℕ) (l : ℕ) : Type 0 where
  left : (i : ℕ) → i < net.nodes → is_reached s i ≡ true → get_or u i 0 < l → get_or v i 0 ≡ get_or u i 0
  right : (i : ℕ) → i < net.nodes → is_reached s i ≡ true → get_or v i 0 < l → get_or u i 0 ≡ get_or v i 0

agree : (net : NetworkData) (r : ℕ) (s : List Bool) (u v : List ℕ) → IsWellFormed net → SolvesLabels net r s u → SolvesLabels net r s v → (l : ℕ) → Agree net s u v l
agree net r s u v sound us vs zero = record { left = λ i lt marked low. absurd (omega arith); right = λ i lt marked low. absurd (omega arith) }
agree net r s u v sound us vs (suc l) =
    let before : Agree net s u v l = agree net r s u v sound us vs l in
    record {
      left = λ i lt marked low. elim (cases_lt (get_or u i 0) l) [
        | inl less ↦ before.left i lt marked less
        | inr at ↦ elim (eqb_tells i r) [
          | inl w ↦ (let e : i ≡ r = w.1 in rw e (vs.zero_at_destination ∙ sym us.zero_at_destination))
          | inr w ↦ (
              let e : get_or u i 0 ≡ l = omega arith in
              let le : get_or v i 0 ≤ l = not_above net r s u v sound us vs l before.left i lt w.1 marked e in
              elim (cases_lt (get_or v i 0) l) [ inl less ↦ sym (before.right i lt marked less) | inr high ↦ omega arith ])
        ]
      ];
      right = λ i lt marked low. elim (cases_lt (get_or v i 0) l) [
        | inl less ↦ before.right i lt marked less
        | inr at ↦ elim (eqb_tells i r) [
          | inl w ↦ (let e : i ≡ r = w.1 in rw e (us.zero_at_destination ∙ sym vs.zero_at_destination))
          | inr w ↦ (
              let e : get_or v i 0 ≡ l = omega arith in
              let le : get_or u i 0 ≤ l = not_above net r s v u sound vs us l before.right i lt w.1 marked e in
              elim (cases_lt (get_or u i 0) l) [ inl less ↦ sym (before.left i lt marked less) | inr high ↦ omega arith ])
        ]
      ];
    }

pub labels_unique : LabelsAreUnique
labels_unique net r s u v sound us vs =
    let both : (i : ℕ) → i < net.nodes → is_reached s i ≡ true → get_or v i 0 ≡ get_or u i 0 = λ i lt marked.
    (agree net r s u v sound us vs (suc (get_or u i 0))).left i lt marked (omega arith) in
    same_number_lists u v (us.label_per_node ∙ sym vs.label_per_node) (λ i short.
    let lt : i < net.nodes = let e = us.label_per_node in omega arith in
    elim (cases_Bool (is_reached s i)) [
      | inl here ↦ sym (both i lt here)
      | inr gone ↦ (
          let mine = us.elsewhere i lt gone in
          let yours = vs.elsewhere i lt gone in
          let e1 : get_or v mine.one.0 0 ≡ get_or u mine.one.0 0 = both mine.one.0 mine.one.1 mine.one.2 in
          let e2 : get_or v yours.one.0 0 ≡ get_or u yours.one.0 0 = both yours.one.0 yours.one.1 yours.one.2 in
          let le : get_or u yours.one.0 0 ≤ get_or u i 0 = mine.highest yours.one.0 yours.one.1 yours.one.2 in
          let ge : get_or v mine.one.0 0 ≤ get_or v i 0 = yours.highest mine.one.0 mine.one.1 mine.one.2 in
          let f1 : get_or u i 0 ≡ get_or u mine.one.0 0 = mine.one.3 in
          let f2 : get_or v i 0 ≡ get_or v yours.one.0 0 = yours.one.3 in
          omega arith)
    ])

-- ---- dual feasible

-- where the head reaches, the tail does
before_head : (net : NetworkData) (r a : ℕ) → a < length net.arcs → Reaches net r (head_of net a) → Reaches net r (tail_of net a)
before_head net r a lt path = (a ∷ path.0, (lt, refl, path.1))

-- a term of all boarding arcs is one of those whose heads reach, or 0
borne : (here b m : Bool) (f w : ℕ) → (here ≡ true → m ≡ false → w ≡ 0) → cond here (cond b (f * w) 0) 0 ≤ cond (here && (b && m)) (f * w) 0
borne true true true f w none = omega arith
borne true true false f w none = let z = none refl refl in rw z (omega arith)
borne true false m f w none = omega arith
borne false b m f w none = omega arith

-- what saves nothing counts nothing
worthless : (here b : Bool) (f w : ℕ) → (here ≡ true → w ≡ 0) → cond here (cond b (f * w) 0) 0 ≤ 0
worthless true true f w none = let z = none refl in rw z (omega arith)
worthless true false f w none = omega arith
worthless false b f w none = omega arith

pub labels_dual : LabelsAreDual
labels_dual net r s u sound reach labels =
    let tails : (a : ℕ) → a < length net.arcs → is_reached s (head_of net a) ≡ true → is_reached s (tail_of net a) ≡ true = λ a lt head.
    (reach.exact (tail_of net a) (sound.tails a lt)).1 (before_head net r a lt ((reach.exact (head_of net a) (sound.heads a lt)).0 head)) in
    -- a label is within that of a head that does not reach
    let under : (a : ℕ) → a < length net.arcs → is_reached s (head_of net a) ≡ false → get_or u (tail_of net a) 0 ≤ get_or u (head_of net a) 0 = λ a lt away.
    let top = labels.elsewhere (head_of net a) (sound.heads a lt) away in
    elim (cases_Bool (is_reached s (tail_of net a))) [
      | inl here ↦ top.highest (tail_of net a) (sound.tails a lt) here
      | inr gone ↦ (let k = (labels.elsewhere (tail_of net a) (sound.tails a lt) gone).one in
          let le : get_or u k.0 0 ≤ get_or u (head_of net a) 0 = top.highest k.0 k.1 k.2 in
          let e : get_or u (tail_of net a) 0 ≡ get_or u k.0 0 = k.3 in omega arith)
    ] in
    record {
      label_per_node = labels.label_per_node;
      zero_at_destination = labels.zero_at_destination;
      free_arcs = λ a lt ne free. elim (cases_Bool (is_reached s (head_of net a))) [
        | inl head ↦ (labels.reaching (tail_of net a) (sound.tails a lt) ne (tails a lt head)).permitted.free a lt refl head free
        | inr away ↦ (let le = under a lt away in omega arith)
      ];
      boarding = λ i lt ne.
          let price : ℕ → ℕ = λ a. cond (tail_of net a == i) (cond (is_boarding net a) (weight_of net a * saving net u (get_or u i 0) a) 0) 0 in
          let nothing : (a : ℕ) → a < length net.arcs → (tail_of net a == i) ≡ true → is_reached s (head_of net a) ≡ false → saving net u (get_or u i 0) a ≡ 0 = λ a alt tail away.
          let le = under a alt away in let e = eqb-true (tail_of net a) i tail in
          let f : get_or u (tail_of net a) 0 ≡ get_or u i 0 = ap (λ j. get_or u j 0) e in omega arith in
          elim (cases_Bool (is_reached s i)) [
            | inl here ↦ (
                let most : sum_by price (arc_numbers net) ≤ saved (length net.arcs) (bears net s i) (weight_of net) (time_through net u) (get_or u i 0) =
                range_le price (λ a. cond (bears net s i a) (weight_of net a * (get_or u i 0 - time_through net u a)) 0) 0 (length net.arcs)
                (λ a low high. borne (tail_of net a == i) (is_boarding net a) (is_reached s (head_of net a)) (weight_of net a) (saving net u (get_or u i 0) a) (nothing a (omega arith))) in
                let w = (labels.reaching i lt ne here).permitted.boarding in
                let e = saved_is net s u i (get_or u i 0) in
                rw (spread net (λ a. weight_of net a * saving net u (get_or u i 0) a) i) (omega (arith, most, e, w)))
            | inr gone ↦ (
                let none : sum_by price (arc_numbers net) ≤ sum_by (λ _. 0) (arc_numbers net) =
                range_le price (λ _. 0) 0 (length net.arcs)
                (λ a low high. worthless (tail_of net a == i) (is_boarding net a) (weight_of net a) (saving net u (get_or u i 0) a)
                (λ tail. nothing a (omega arith) tail (false_from_ne_true (is_reached s (head_of net a)) (λ head.
                false≢true (sym gone ∙ ap (is_reached s) (sym (eqb-true (tail_of net a) i tail)) ∙ tails a (omega arith) head))))) in
                let z = sum_by-none (arc_numbers net) in
                rw (spread net (λ a. weight_of net a * saving net u (get_or u i 0) a) i) (omega (arith, none, z)))
          ];
    }
