-- Which arcs were seen, as those into a node are looked at one after another.
use Rattle.std.proofs.Common.{◌≡◌, ◌≢◌, ℕ, zero, suc, ◌+◌, ◌-◌, ◌<◌, ◌≤◌, ◌==◌, ◌&&◌, ◌||◌, Bool, true, false, not, List, [], ◌∷◌, length, Option, refl, sym, ◌∙◌, ap, arith, inl, inr, subst}
use mathlib.Core.Path.{fun_ext}
use Rattle.std.specs.Bool.{nat_lt}
use Rattle.std.specs.List.{filter, range_with_len}
use Rattle.std.proofs.lemmas.Bool.{cases_lt, cases_eq, cases_Bool, lt-ltb, ne_eqb, eq-eqb, le-ltb}
use Rattle.definitions.specs.Network.{NetworkData, head_of}
use Rattle.label_setting.specs.Partway.{Partway, all_seen, seen_to}
use Rattle.label_setting.proofs.ChangeLemmas.{SetAt}

pub seen_as : (net : NetworkData) (r : ℕ) (u : ℕ → ℕ) (s seen these joins : ℕ → Bool) (q : ℕ → Option ℕ) (level last : ℕ) → ((a : ℕ) → seen a ≡ these a) →
    Partway net r u s seen joins q level last → Partway net r u s these joins q level last
seen_as net r u s seen these joins q level last same h = let P : (ℕ → Bool) → Type 0 = λ b. Partway net r u s b joins q level last in subst P (fun_ext same) h

all_tests : (b x y : Bool) → y ≡ true → (b && x) ≡ (b && (x && y))
all_tests b x y h = rw h (ap (λ z. b && z) (sym (last x)))
  where
    last : (x : Bool) → (x && true) ≡ x
    last true = refl
    last false = refl

no_test : (b x : Bool) → (b && (x && false)) ≡ false
no_test true true = refl
no_test true false = refl
no_test false x = refl

-- as the node i comes to be settled, none of its arcs was seen
pub seen_first : (net : NetworkData) (s m : ℕ → Bool) (i : ℕ) → s i ≡ false → SetAt s m i true → (a : ℕ) → all_seen net s a ≡ seen_to net m i 0 a
seen_first net s m i opened mark a = elim (cases_eq (head_of net a) i) [
  | inl e ↦ (
      let f : s (head_of net a) ≡ false = ap s e ∙ opened in
      let g : (not (head_of net a == i) || nat_lt a 0) ≡ false = ap (λ b. not b || nat_lt a 0) (eq-eqb (head_of net a) i e) ∙ le-ltb a 0 (omega arith) in
      ap (λ b. nat_lt a (length net.arcs) && b) f ∙ right_false (nat_lt a (length net.arcs))
      ∙ sym (ap (λ b. nat_lt a (length net.arcs) && (m (head_of net a) && b)) g ∙ no_test (nat_lt a (length net.arcs)) (m (head_of net a))))
  | inr ne ↦ (
      let g : (not (head_of net a == i) || nat_lt a 0) ≡ true = ap (λ b. not b || nat_lt a 0) (ne_eqb (head_of net a) i ne) in
      ap (λ b. nat_lt a (length net.arcs) && b) (sym (mark.others (head_of net a) ne)) ∙ all_tests (nat_lt a (length net.arcs)) (m (head_of net a)) (not (head_of net a == i) || nat_lt a 0) g)
]
  where
    right_false : (b : Bool) → (b && false) ≡ false
    right_false true = refl
    right_false false = refl

pub one_more : (a k : ℕ) → a ≢ k → nat_lt a k ≡ nat_lt a (k + 1)
one_more a k ne = elim (cases_lt a k) [
  | inl low ↦ lt-ltb a k low ∙ sym (lt-ltb a (k + 1) (omega arith))
  | inr high ↦ le-ltb a k high ∙ sym (le-ltb a (k + 1) (omega arith))
]

-- arcs that lead elsewhere change nothing
pub seen_jump : (net : NetworkData) (m : ℕ → Bool) (i k e : ℕ) → k ≤ e → ((b : ℕ) → k ≤ b → b < e → head_of net b ≢ i) → (a : ℕ) → seen_to net m i k a ≡ seen_to net m i e a
seen_jump net m i k e le none a = elim (cases_eq (head_of net a) i) [
  | inr ne ↦ (let g : (head_of net a == i) ≡ false = ne_eqb (head_of net a) i ne in rw g refl)
  | inl at ↦ ap (λ b. nat_lt a (length net.arcs) && (m (head_of net a) && (not (head_of net a == i) || b))) (elim (cases_lt a k) [
    | inl low ↦ lt-ltb a k low ∙ sym (lt-ltb a e (omega arith))
    | inr high ↦ le-ltb a k high ∙ sym (elim (cases_lt a e) [ inl short ↦ absurd (none a high short at) | inr past ↦ le-ltb a e past ])
  ])
]

-- an arc into i that comes to be seen
pub seen_now : (net : NetworkData) (m : ℕ → Bool) (i k : ℕ) → k < length net.arcs → head_of net k ≡ i → m i ≡ true → SetAt (seen_to net m i k) (seen_to net m i (k + 1)) k true
seen_now net m i k lt head here = record {
  at =
      let e1 = lt-ltb k (length net.arcs) lt in
      let e2 : m (head_of net k) ≡ true = ap m head ∙ here in
      let e3 = lt-ltb k (k + 1) (omega arith) in
      rw (e1, e2, e3) (right_true (not (head_of net k == i)));
  others = λ a ne. ap (λ b. nat_lt a (length net.arcs) && (m (head_of net a) && (not (head_of net a == i) || b))) (sym (one_more a k ne));
}
  where
    right_true : (b : Bool) → (b || true) ≡ true
    right_true true = refl
    right_true false = refl

pub seen_not : (net : NetworkData) (m : ℕ → Bool) (i k : ℕ) → head_of net k ≡ i → seen_to net m i k k ≡ false
seen_not net m i k head =
    let g : (not (head_of net k == i) || nat_lt k k) ≡ false = ap (λ b. not b || nat_lt k k) (eq-eqb (head_of net k) i head) ∙ le-ltb k k (omega arith) in
    rw g (no_test (nat_lt k (length net.arcs)) (m (head_of net k)))

-- in the end all were seen
pub seen_last : (net : NetworkData) (m : ℕ → Bool) (i a : ℕ) → seen_to net m i (length net.arcs) a ≡ all_seen net m a
seen_last net m i a = sym (ends (nat_lt a (length net.arcs)) (m (head_of net a)) (not (head_of net a == i)))
  where
    ends : (b x y : Bool) → (b && x) ≡ (b && (x && (y || b)))
    ends true true true = refl
    ends true true false = refl
    ends true false y = refl
    ends false x y = refl

-- ---- the arcs of a filtered range, one after another

-- the first that passes
pub record FirstPass (p : ℕ → Bool) (k n a : ℕ) (rest : List ℕ) : Type 0 where
  pub from : k ≤ a
  pub short : a < k + n
  pub passes : p a ≡ true
  pub none : (b : ℕ) → k ≤ b → b < a → p b ≡ false
  pub rest_is : rest ≡ filter p (range_with_len (a + 1) (k + n - (a + 1)))

pub first_pass : (p : ℕ → Bool) (k n a : ℕ) (rest : List ℕ) → filter p (range_with_len k n) ≡ a ∷ rest → FirstPass p k n a rest
first_pass p k zero a rest e = absurd cc
first_pass p k (suc n) a rest e = elim (cases_Bool (p k)) [
  | inl on ↦ (
      let f : k ∷ filter p (range_with_len (k + 1) n) ≡ a ∷ rest = rw on at e in
      let h : k ≡ a = cc in
      let t : rest ≡ filter p (range_with_len (k + 1) n) = cc in
      let m : k + suc n - (a + 1) ≡ n = omega arith in
      record {
        from = omega arith;
        short = omega arith;
        passes = ap p (sym h) ∙ on;
        none = λ b low high. absurd (omega arith);
        rest_is = rw (m, ← h) t;
      })
  | inr off ↦ (
      let f : filter p (range_with_len (k + 1) n) ≡ a ∷ rest = rw off at e in
      let later = first_pass p (k + 1) n a rest f in
      let low = later.from in let high = later.short in
      let m : k + suc n - (a + 1) ≡ k + 1 + n - (a + 1) = omega arith in
      record {
        from = omega arith;
        short = omega arith;
        passes = later.passes;
        none = λ b blow bhigh. elim (cases_eq b k) [ inl same ↦ ap p same ∙ off | inr ne ↦ later.none b (omega arith) bhigh ];
        rest_is = rw m later.rest_is;
      })
]

-- where none passes
pub none_pass : (p : ℕ → Bool) (k n : ℕ) → filter p (range_with_len k n) ≡ [] → (b : ℕ) → k ≤ b → b < k + n → p b ≡ false
none_pass p k zero e b low high = absurd (omega arith)
none_pass p k (suc n) e b low high = elim (cases_Bool (p k)) [
  | inl on ↦ absurd (let f : k ∷ filter p (range_with_len (k + 1) n) ≡ [] = rw on at e in cc)
  | inr off ↦ (let f : filter p (range_with_len (k + 1) n) ≡ [] = rw off at e in
      elim (cases_eq b k) [ inl same ↦ ap p same ∙ off | inr ne ↦ none_pass p (k + 1) n f b (omega arith) (omega arith) ])
]
