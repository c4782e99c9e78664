-- Labels that lie above those of the equations stay so as nodes are marked and labels fall, and are these in the end.
use Rattle.std.proofs.Common.{◌≡◌, ◌≢◌, ℕ, ◌+◌, ◌<◌, ◌≤◌, Bool, true, false, cond, List, length, get_or, set, sym, ◌∙◌, ap, arith, inl, inr}
use Rattle.std.proofs.lemmas.Bool.{cases_lt, cases_eq, false≢true}
use Rattle.std.proofs.lemmas.List.{length-set, get_or_past}
use Rattle.definitions.specs.Network.{NetworkData, IsWellFormed, IsWithinLimits, tail_of, head_of, cost_of}
use Rattle.definitions.specs.Reach.{IsReach, is_reached}
use Rattle.definitions.specs.Labels.{Permits, SolvesLabels}
use Rattle.definitions.proofs.Sums.{range_le}
use Rattle.label_setting.specs.Plain.{marked, unmarked, label_sum, IsAbove, IsClosed}
use Rattle.label_setting.proofs.ChangeLemmas.{SetAt, set_list, apart, more_on, reaches_by}
use Rattle.label_setting.proofs.SumLemmas.{here_more}
use Rattle.label_setting.proofs.TallyLemmas.{ones}
use Rattle.label_setting.proofs.OrderLemmas.{range_less}
use Rattle.label_setting.proofs.EndLemmas.{along}
use Rattle.label_setting.proofs.PermitLemmas.{permits_by, one_permits}

-- ---- a node is marked

pub count_within : (net : NetworkData) (m : List Bool) → marked net m ≤ net.nodes
count_within net m =
    let le = range_le (λ i. cond (is_reached m i) 1 0) (λ _. 1) 0 net.nodes (λ i low high. one (is_reached m i)) in
    let all = ones 0 net.nodes in
    omega (arith, le, all)
  where
    one : (b : Bool) → cond b 1 0 ≤ 1
    one true = omega arith
    one false = omega arith

pub mark_step : (net : NetworkData) (r : ℕ) (m : List Bool) (u : List ℕ) → IsWellFormed net → IsWithinLimits net → IsAbove net r m u → (a : ℕ) → a < length net.arcs →
    is_reached m (head_of net a) ≡ true → is_reached m (tail_of net a) ≡ false → (w : ℕ) → w ≡ get_or u (head_of net a) 0 + cost_of net a + net.k →
    IsAbove net r (set m (tail_of net a) true) (set u (tail_of net a) w)
mark_step net r m u sound small h a lt head tail w is =
    let i : ℕ = tail_of net a in
    let n : List Bool = set m i true in
    let v : List ℕ = set u i w in
    let ilt = sound.tails a lt in
    let ll = h.label_per_node in let ml = h.mark_per_node in
    let mark : SetAt (is_reached m) (is_reached n) i true = set_list m i true false (omega arith) in
    let label : SetAt (λ j. get_or u j 0) (λ j. get_or v j 0) i w = set_list u i w 0 (omega arith) in
    let more = here_more net.nodes (is_reached m) (is_reached n) (λ _. 1) i ilt tail mark.at (λ b blt ne. mark.others b ne) in
    let cost : cost_of net a ≤ 1000000000 = small.costs a lt in
    let k : net.k ≤ 345600000000 = small.k in
    let same : (j : ℕ) → is_reached m j ≡ true → get_or v j 0 ≡ get_or u j 0 = λ j on. label.others j (apart (is_reached m) j i on tail) in
    let back : (j x : ℕ) → Permits net n v j x → Permits net m u j x = λ j x p. permits_by net m n u v j x x (omega arith)
    (λ b blt on. (more_on (is_reached m) (is_reached n) i mark (head_of net b) on, let e = same (head_of net b) on in omega arith)) p in
    record {
      label_per_node = length-set u i w ∙ ll;
      mark_per_node = length-set m i true ∙ ml;
      goal = more_on (is_reached m) (is_reached n) i mark r h.goal;
      zero = same r h.goal ∙ h.zero;
      reaches = λ j jlt on. elim (cases_eq j i) [
        | inl e ↦ rw e (reaches_by net r a lt (h.reaches (head_of net a) (sound.heads a lt) head))
        | inr ne ↦ h.reaches j jlt (sym (mark.others j ne) ∙ on)
      ];
      above = λ j jlt on nr x p. elim (cases_eq j i) [
        | inl e ↦ (
            let q : Permits net m u j x = back j x p in
            let le = one_permits net m u j x a sound lt (sym e) head q in
            let f : get_or v j 0 ≡ w = ap (λ y. get_or v y 0) e ∙ label.at in
            omega arith)
        | inr ne ↦ (let le = h.above j jlt (sym (mark.others j ne) ∙ on) nr x (back j x p) in let f = label.others j ne in omega arith)
      ];
      bounded = λ j. elim (cases_eq j i) [
        | inl e ↦ (let f : get_or v j 0 ≡ w = ap (λ y. get_or v y 0) e ∙ label.at in let b = h.bounded (head_of net a) in omega arith)
        | inr ne ↦ (let f = label.others j ne in let b = h.bounded j in omega arith)
      ];
    }

pub mark_less : (net : NetworkData) (m : List Bool) (i : ℕ) → length m ≡ net.nodes → i < net.nodes → is_reached m i ≡ false → unmarked net (set m i true) < unmarked net m
mark_less net m i long lt off =
    let mark : SetAt (is_reached m) (is_reached (set m i true)) i true = set_list m i true false (omega arith) in
    range_less (λ j. cond (is_reached (set m i true) j) 0 1) (λ j. cond (is_reached m j) 0 1) net.nodes i lt (rw (mark.at, off) (omega arith))
    (λ j jlt. elim (cases_eq j i) [ inl e ↦ rw (e, mark.at) (omega arith) | inr ne ↦ rw (mark.others j ne) (omega arith) ])

-- ---- a label falls

pub lower_step : (net : NetworkData) (r : ℕ) (m : List Bool) (u : List ℕ) → IsAbove net r m u → (i w : ℕ) → i < net.nodes → i ≢ r → w ≤ get_or u i 0 →
    ((x : ℕ) → Permits net m u i x → x ≤ w) → IsAbove net r m (set u i w)
lower_step net r m u h i w ilt ne le top =
    let v : List ℕ = set u i w in
    let ll = h.label_per_node in
    let label : SetAt (λ j. get_or u j 0) (λ j. get_or v j 0) i w = set_list u i w 0 (omega arith) in
    let under : (j : ℕ) → get_or v j 0 ≤ get_or u j 0 = λ j. elim (cases_eq j i) [
      | inl e ↦ (let f : get_or v j 0 ≡ w = ap (λ y. get_or v y 0) e ∙ label.at in let g : get_or u j 0 ≡ get_or u i 0 = ap (λ y. get_or u y 0) e in omega arith)
      | inr nj ↦ (let f = label.others j nj in omega arith)
    ] in
    let back : (j x : ℕ) → Permits net m v j x → Permits net m u j x = λ j x p. permits_by net m m u v j x x (omega arith)
    (λ b blt on. (on, let e = under (head_of net b) in omega arith)) p in
    record {
      label_per_node = length-set u i w ∙ ll;
      mark_per_node = h.mark_per_node;
      goal = h.goal;
      zero = label.others r (λ e. ne (sym e)) ∙ h.zero;
      reaches = h.reaches;
      above = λ j jlt on nr x p. elim (cases_eq j i) [
        | inl e ↦ (let le2 = top x (rw e at (back j x p)) in let f : get_or v j 0 ≡ w = ap (λ y. get_or v y 0) e ∙ label.at in omega arith)
        | inr nj ↦ (let le2 = h.above j jlt on nr x (back j x p) in let f = label.others j nj in omega arith)
      ];
      bounded = λ j. let a = under j in let b = h.bounded j in omega arith;
    }

pub lower_less : (net : NetworkData) (u : List ℕ) (i w : ℕ) → length u ≡ net.nodes → i < net.nodes → w < get_or u i 0 → label_sum net (set u i w) < label_sum net u
lower_less net u i w long lt less =
    let label : SetAt (λ j. get_or u j 0) (λ j. get_or (set u i w) j 0) i w = set_list u i w 0 (omega arith) in
    range_less (λ j. get_or (set u i w) j 0) (λ j. get_or u j 0) net.nodes i lt (rw label.at less)
    (λ j jlt. elim (cases_eq j i) [ inl e ↦ rw (e, label.at) (omega arith) | inr ne ↦ rw (label.others j ne) (omega arith) ])

-- ---- the end

pub above_reach : (net : NetworkData) (r : ℕ) (m : List Bool) (u : List ℕ) → IsAbove net r m u → IsClosed net m → IsReach net r m
above_reach net r m u h closed = record {
  mark_per_node = h.mark_per_node;
  exact = λ i lt. (h.reaches i lt, λ p. along net r (is_reached m) h.goal closed i p.0 p.1);
}

pub above_solves : (net : NetworkData) (r : ℕ) (m : List Bool) (u v : List ℕ) (far : ℕ) → IsWellFormed net → IsAbove net r m u →
    ((i : ℕ) → i < net.nodes → is_reached m i ≡ true → i ≢ r → Permits net m u i (get_or u i 0)) →
    length v ≡ net.nodes → r < net.nodes → ((i : ℕ) → i < net.nodes → get_or v i 0 ≡ cond (is_reached m i) (get_or u i 0) far) →
    (one : ℕ) → one < net.nodes → is_reached m one ≡ true → far ≡ get_or u one 0 → ((i : ℕ) → i < net.nodes → is_reached m i ≡ true → get_or u i 0 ≤ far) → SolvesLabels net r m v
above_solves net r m u v far sound h top long rlt is one olt on at most =
    let same : (i : ℕ) → i < net.nodes → is_reached m i ≡ true → get_or v i 0 ≡ get_or u i 0 = λ i lt here. rw here at (is i lt) in
    let other : (i : ℕ) → i < net.nodes → is_reached m i ≡ false → get_or v i 0 ≡ far = λ i lt off. rw off at (is i lt) in
    record {
      label_per_node = long;
      zero_at_destination = same r rlt h.goal ∙ h.zero;
      reaching = λ i lt ne here. record {
        permitted = rw (same i lt here) (permits_by net m m v u i (get_or u i 0) (get_or u i 0) (omega arith)
            (λ a alt head. (head, let e = same (head_of net a) (sound.heads a alt) head in omega arith)) (top i lt here ne));
        greatest = λ x p. rw (same i lt here) (h.above i lt here ne x (permits_by net m m u v i x x (omega arith)
            (λ a alt head. (head, let e = same (head_of net a) (sound.heads a alt) head in omega arith)) p));
      };
      elsewhere = λ i lt away. record {
        one = (one, olt, on, other i lt away ∙ at ∙ sym (same one olt on));
        highest = λ j jlt here. let e = other i lt away in let f = same j jlt here in let g = most j jlt here in omega arith;
      };
    }

-- ---- what the code needs

-- labels fit, with a cost and the longest wait
pub above_fits : (net : NetworkData) (r : ℕ) (m : List Bool) (u : List ℕ) → IsWithinLimits net → IsAbove net r m u → (j : ℕ) → get_or u j 0 ≤ 363476230457499648
above_fits net r m u small h j =
    let b = h.bounded j in
    let c = count_within net m in
    let nodes : net.nodes ≤ 1048576 = small.nodes in
    omega arith

-- a marked node is one of the network
pub mark_within : (net : NetworkData) (r : ℕ) (m : List Bool) (u : List ℕ) → IsAbove net r m u → (i : ℕ) → is_reached m i ≡ true → i < net.nodes
mark_within net r m u h i on = elim (cases_lt i (length m)) [
  | inl low ↦ (let e = h.mark_per_node in omega arith)
  | inr high ↦ absurd (false≢true (sym (get_or_past m i false high) ∙ on))
]
