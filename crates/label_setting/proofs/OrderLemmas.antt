-- The order of the settled nodes, and what is left, through the steps.
use Rattle.std.proofs.Common.{◌≡◌, ◌≢◌, ℕ, ◌+◌, ◌<◌, ◌≤◌, ◌==◌, ◌&&◌, Bool, true, false, not, cond, List, [], ◌∷◌, ◌++◌, length, get_or, Option, None, Some, is_some, refl, sym, ◌∙◌, ap, arith, inl, inr, ◌⊎◌, length-append, subst}
use Rattle.std.specs.List.{sum_by, range_with_len}
use Rattle.std.proofs.lemmas.Bool.{cases_lt, cases_eq, eqb-true}
use Rattle.std.proofs.lemmas.List.{get_or_append_left, get_or_at}
use Rattle.definitions.specs.Network.{NetworkData, head_of}
use Rattle.definitions.proofs.Sums.{range_le, one_term, sum_by-add}
use Rattle.label_setting.specs.Partway.{Before, Partway, Ordered, left}
use Rattle.label_setting.proofs.ChangeLemmas.{SetAt, apart, before_after}

-- ---- the order

settled_before : (net : NetworkData) (x y i j m : ℕ) → i ≢ j → Before x (m + i) y (m + j) → (x < y) ⊎ ((x ≡ y) × (i < j))
settled_before net x y i j m ne b = elim b [ inl l ↦ inl l | inr r ↦ (let f = r.1 in inr (r.0, omega arith)) ]

pub ordered_settle : (net : NetworkData) (r : ℕ) (u : ℕ → ℕ) (s seen joins : ℕ → Bool) (q : ℕ → Option ℕ) (level last : ℕ) → Partway net r u s seen joins q level last →
    (o : List ℕ) → Ordered net.nodes u s o → (i y : ℕ) → i < net.nodes → q (length net.arcs + i) ≡ Some y →
    (v : ℕ → ℕ) (m : ℕ → Bool) → SetAt u v i y → SetAt s m i true → Ordered net.nodes v m (o ++ i ∷ [])
ordered_settle net r u s seen joins q level last h o ord i y lt there v m label mark =
    let opened : s i ≡ false = (h.nodes i y lt there).0 in
    let before : (k : ℕ) → k < length o → get_or (o ++ i ∷ []) k 0 ≡ get_or o k 0 = λ k short. get_or_append_left o (i ∷ []) 0 k short in
    let now : get_or (o ++ i ∷ []) (length o) 0 ≡ i = get_or_at o i [] 0 (length o) refl in
    let ne : (k : ℕ) → k < length o → get_or o k 0 ≢ i = λ k short. apart s (get_or o k 0) i (ord.inside k short).1 opened in
    let long : length (o ++ i ∷ []) ≡ length o + 1 = length-append o (i ∷ []) in
    record {
      inside = λ k short. elim (cases_lt k (length o)) [
        | inl low ↦ rw (before k low) ((ord.inside k low).0, mark.others (get_or o k 0) (ne k low) ∙ (ord.inside k low).1)
        | inr high ↦ (let e : k ≡ length o = omega arith in rw (e, now) (lt, mark.at))
      ];
      all = λ j jlt is. elim (cases_eq j i) [
        | inl e ↦ (length o, omega arith, now ∙ sym e)
        | inr nj ↦ (let k = ord.all j jlt (sym (mark.others j nj) ∙ is) in let l = k.1 in (k.0, omega arith, before k.0 k.1 ∙ k.2))
      ];
      sorted = λ j k less short. elim (cases_lt k (length o)) [
        | inl low ↦ (let jlow : j < length o = omega arith in
            rw (before k low, before j jlow, label.others (get_or o j 0) (ne j jlow), label.others (get_or o k 0) (ne k low)) (ord.sorted j k less low))
        | inr high ↦ (let e : k ≡ length o = omega arith in let jlow : j < length o = omega arith in
            rw (e, now, before j jlow, label.others (get_or o j 0) (ne j jlow), label.at)
            (settled_before net (u (get_or o j 0)) y (get_or o j 0) i (length net.arcs) (ne j jlow)
            (before_after (u (get_or o j 0)) (length net.arcs + get_or o j 0) level last y (length net.arcs + i)
            (h.below (get_or o j 0) (ord.inside j jlow).0 (ord.inside j jlow).1) (h.later (length net.arcs + i) y there))))
      ];
    }

-- ---- what is left

-- a sum falls where no term rises and one falls
pub range_less : (f g : ℕ → ℕ) (n a : ℕ) → a < n → f a < g a → ((i : ℕ) → i < n → f i ≤ g i) → sum_by f (range_with_len 0 n) < sum_by g (range_with_len 0 n)
range_less f g n a lt less le =
    let all : sum_by (λ i. f i + cond (a == i) 1 0) (range_with_len 0 n) ≤ sum_by g (range_with_len 0 n) =
    range_le (λ i. f i + cond (a == i) 1 0) g 0 n (λ i low high. at_most (a == i) (f i) (g i) (le i (omega arith))
    (λ at. let e : a ≡ i = eqb-true a i at in let P : ℕ → Type 0 = λ k. f k < g k in subst P e less)) in
    let split = sum_by-add f (λ i. cond (a == i) 1 0) (range_with_len 0 n) in
    let one = one_term (λ _. 1) a 0 n (omega arith) (omega arith) in
    omega arith
  where
    at_most : (b : Bool) (x y : ℕ) → x ≤ y → (b ≡ true → x < y) → x + cond b 1 0 ≤ y
    at_most true x y le less = let l = less refl in omega arith
    at_most false x y le less = omega arith

zero_or_one : (b : Bool) → cond b 0 1 ≤ 1
zero_or_one true = omega arith
zero_or_one false = omega arith

pub left_settle : (net : NetworkData) (s m : ℕ → Bool) (q p : ℕ → Option ℕ) (i : ℕ) → i < net.nodes → s i ≡ false → SetAt s m i true →
    ((a : ℕ) → a < length net.arcs → head_of net a ≢ i → p a ≡ q a) → left net m p < left net s q
left_settle net s m q p i lt opened mark same =
    let nodes : sum_by (λ j. cond (m j) 0 1) (range_with_len 0 net.nodes) < sum_by (λ j. cond (s j) 0 1) (range_with_len 0 net.nodes) =
    range_less (λ j. cond (m j) 0 1) (λ j. cond (s j) 0 1) net.nodes i lt (rw (mark.at, opened) (omega arith))
    (λ j jlt. elim (cases_eq j i) [ inl e ↦ rw (e, mark.at) (omega arith) | inr ne ↦ rw (mark.others j ne) (omega arith) ]) in
    let arcs : sum_by (λ a. cond (m (head_of net a) && not (is_some (p a))) 0 1) (range_with_len 0 (length net.arcs)) ≤ sum_by (λ a. cond (s (head_of net a) && not (is_some (q a))) 0 1) (range_with_len 0 (length net.arcs)) =
    range_le (λ a. cond (m (head_of net a) && not (is_some (p a))) 0 1) (λ a. cond (s (head_of net a) && not (is_some (q a))) 0 1) 0 (length net.arcs)
    (λ a low high. elim (cases_eq (head_of net a) i) [
      | inl e ↦ (let none : s (head_of net a) ≡ false = ap s e ∙ opened in rw none (zero_or_one (m (head_of net a) && not (is_some (p a)))))
      | inr ne ↦ rw (mark.others (head_of net a) ne, same a (omega arith) ne) (omega arith)
    ]) in
    omega arith

pub left_join : (net : NetworkData) (s : ℕ → Bool) (q p : ℕ → Option ℕ) (a y : ℕ) → a < length net.arcs → s (head_of net a) ≡ true → q a ≡ Some y → p a ≡ None →
    ((b : ℕ) → b < length net.arcs → b ≢ a → p b ≡ q b) → left net s p < left net s q
left_join net s q p a y lt head there gone same =
    let arcs : sum_by (λ b. cond (s (head_of net b) && not (is_some (p b))) 0 1) (range_with_len 0 (length net.arcs)) < sum_by (λ b. cond (s (head_of net b) && not (is_some (q b))) 0 1) (range_with_len 0 (length net.arcs)) =
    range_less (λ b. cond (s (head_of net b) && not (is_some (p b))) 0 1) (λ b. cond (s (head_of net b) && not (is_some (q b))) 0 1) (length net.arcs) a lt
    (rw (head, there, gone) (omega arith))
    (λ b blt. elim (cases_eq b a) [
      | inl e ↦ rw (e, head, there, gone) (omega arith)
      | inr ne ↦ rw (same b blt ne) (omega arith)
    ]) in
    omega arith
