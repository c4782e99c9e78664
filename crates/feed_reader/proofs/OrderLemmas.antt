-- A stable sort by sequence gives the rows in order.
use Rattle.std.proofs.Common.{◌≡◌, ℕ, suc, ◌<◌, ◌≤◌, Bool, true, false, List, [], ◌∷◌, length, get_or, refl, sym, ap, ◌∙◌, inl, inr, arith}
use Rattle.std.specs.Prelude.{◌==◌, filter, nat_lt, if◌then◌else◌}
use Rattle.std.specs.List.Sorted.{IsNonDecreasingBy}
use Rattle.std.proofs.lemmas.Bool.{cases_Bool, ne_eqb}
use Rattle.std.proofs.lemmas.Bool.Decides.{nat_tests}
use Rattle.std.proofs.Common.{eq-eqb}
use Rattle.feed_reader.specs.declared.row_call.RowCall.{RowCall}
use Rattle.feed_reader.specs.TripCalls.{sequence_of}
use Rattle.feed_reader.specs.StopTimes.{in_sequence, placed}

-- each key is at least a number
abbrev pub From : {A : Type 0} → (A → ℕ) → ℕ → List A → Type 0
From key n [] = Unit {0}
From key n (x ∷ xs) = (n ≤ key x) × From key n xs

-- each key is at least those before it
abbrev pub Rises : {A : Type 0} → (A → ℕ) → List A → Type 0
Rises key [] = Unit {0}
Rises key (x ∷ xs) = From key (key x) xs × Rises key xs

pub from-less : {A : Type 0} (key : A → ℕ) (m n : ℕ) (xs : List A) → m ≤ n → From key n xs → From key m xs
from-less key m n [] le h = tt
from-less key m n (x ∷ xs) le h = (let low = h.0 in omega arith, from-less key m n xs le h.1)

pub none-below : {A : Type 0} (key : A → ℕ) (s n : ℕ) (xs : List A) → s < n → From key n xs → filter (λ x. key x == s) xs ≡ []
none-below key s n [] lt h = refl
none-below key s n (x ∷ xs) lt h =
    let low = h.0 in
    let differs : (key x == s) ≡ false = ne_eqb _ _ (λ e. absurd (omega arith)) in
    rw differs (none-below key s n xs lt h.1)

lesser-none : {A : Type 0} (key : A → ℕ) (x y : A) (xs ys : List A) → From key (key y) ys → filter (λ z. key z == key x) (x ∷ xs) ≡ filter (λ z. key z == key x) (y ∷ ys) → ¬ (key x < key y)
lesser-none key x y xs ys up h lt =
    let here : (key x == key x) ≡ true = eq-eqb _ _ refl in
    let differs : (key y == key x) ≡ false = ne_eqb _ _ (λ e. absurd (omega arith)) in
    let none = none-below key (key x) (key y) ys lt up in
    let bad = rw (here, differs, none) at h in
    absurd (cc bad)

tails : {A : Type 0} (key : A → ℕ) (x y : A) (xs ys : List A) (s : ℕ) → x ≡ y → (key x == s) ≡ false → filter (λ z. key z == s) (x ∷ xs) ≡ filter (λ z. key z == s) (y ∷ ys)
    → filter (λ z. key z == s) xs ≡ filter (λ z. key z == s) ys
tails key x y xs ys s first c h = let there : (key y == s) ≡ false = rw first at c in rw (c, there) at h

-- two rising lists with the same elements of each key, in the same order, are equal
pub same-order : {A : Type 0} (key : A → ℕ) (xs ys : List A) → Rises key xs → Rises key ys → ((s : ℕ) → filter (λ x. key x == s) xs ≡ filter (λ x. key x == s) ys) → xs ≡ ys
same-order key [] [] up vp h = refl
same-order key [] (y ∷ ys) up vp h = let e = h (key y) in let here : (key y == key y) ≡ true = eq-eqb _ _ refl in let bad = rw here at e in absurd (cc bad)
same-order key (x ∷ xs) [] up vp h = let e = h (key x) in let here : (key x == key x) ≡ true = eq-eqb _ _ refl in let bad = rw here at e in absurd (cc bad)
same-order {A} key (x ∷ xs) (y ∷ ys) up vp h =
    let low = lesser-none key x y xs ys vp.0 (h (key x)) in
    let high = lesser-none key y x ys xs up.0 (sym (h (key y))) in
    let keys : key x ≡ key y = omega (arith, low, high) in
    let here : (key x == key x) ≡ true = eq-eqb _ _ refl in
    let there : (key y == key x) ≡ true = eq-eqb _ _ (sym keys) in
    let e : x ∷ filter (λ z. key z == key x) xs ≡ y ∷ filter (λ z. key z == key x) ys = rw (here, there) at (h (key x)) in
    let first : x ≡ y = cc in
    let others : filter (λ z. key z == key x) xs ≡ filter (λ z. key z == key x) ys = cc in
    let each : (s : ℕ) → filter (λ z. key z == s) xs ≡ filter (λ z. key z == s) ys = λ s. elim (cases_Bool (key x == s)) [
      | inl c ↦ let same : key x ≡ s = grind (arith, nat_tests) in rw same at others
      | inr c ↦ tails key x y xs ys s first c (h s)
    ] in
    let rest : xs ≡ ys = same-order key xs ys up.1 vp.1 each in
    rw (first, rest) refl

-- what is said by index
from-index : {A : Type 0} (key : A → ℕ) (n : ℕ) (xs : List A) → ((i : ℕ) (d : A) → i < length xs → n ≤ key (get_or xs i d)) → From key n xs
from-index key n [] h = tt
from-index key n (x ∷ xs) h = (h 0 x (omega arith), from-index key n xs (λ i d lt. h (suc i) d (omega arith)))

pub rises-index : {A : Type 0} (key : A → ℕ) (xs : List A) → IsNonDecreasingBy key xs → Rises key xs
rises-index key [] h = tt
rises-index key (x ∷ xs) h = (from-index key (key x) xs (λ i d lt. h 0 (suc i) d (omega arith) (omega arith)), rises-index key xs (λ i j d le lt. h (suc i) (suc j) d (omega arith) (omega arith)))

-- a row in its place
placed-from : (n : ℕ) (c : RowCall) (ds : List RowCall) → n ≤ c.sequence → From sequence_of n ds → From sequence_of n (placed c ds)
unfolding placed
placed-from n c [] le h = (le, tt)
placed-from n c (d ∷ ds) le h = elim (cases_Bool (nat_lt d.sequence c.sequence)) [
  | inl e ↦ rw e (h.0, placed-from n c ds le h.1)
  | inr e ↦ rw e (le, h)
]

placed-rises : (c : RowCall) (ds : List RowCall) → Rises sequence_of ds → Rises sequence_of (placed c ds)
unfolding placed
placed-rises c [] h = (tt, tt)
placed-rises c (d ∷ ds) h = elim (cases_Bool (nat_lt d.sequence c.sequence)) [
  | inl e ↦ let low : d.sequence ≤ c.sequence = grind (arith, nat_tests) in rw e (placed-from d.sequence c ds low h.0, placed-rises c ds h.1)
  | inr e ↦ let low : c.sequence ≤ d.sequence = grind (arith, nat_tests) in rw e ((low, from-less sequence_of c.sequence d.sequence ds low h.0), h)
]

placed-kept : (s : ℕ) (c : RowCall) (ds : List RowCall) → filter (λ x. sequence_of x == s) (placed c ds) ≡ filter (λ x. sequence_of x == s) (c ∷ ds)
unfolding placed
placed-kept s c [] = refl
placed-kept s c (d ∷ ds) = elim (cases_Bool (nat_lt d.sequence c.sequence)) [
  | inl e ↦
      let before : d.sequence < c.sequence = grind (arith, nat_tests) in
      let later = placed-kept s c ds in
      elim (cases_Bool (d.sequence == s)) [
        | inl hd ↦
            let same : d.sequence ≡ s = grind (arith, nat_tests) in
            let differs : (c.sequence == s) ≡ false = ne_eqb _ _ (λ k. absurd (omega arith)) in
            let tail : filter (λ x. sequence_of x == s) (placed c ds) ≡ filter (λ x. sequence_of x == s) ds = later ∙ rw differs refl in
            rw (e, hd, differs) (ap (λ (xs : List RowCall). d ∷ xs) tail)
        | inr hd ↦ rw (e, hd, later) refl
      ]
  | inr e ↦ rw e refl
]

first-kept : (b : Bool) (c : RowCall) (xs ys : List RowCall) → xs ≡ ys → (if b then c ∷ xs else xs) ≡ (if b then c ∷ ys else ys)
first-kept b c xs ys e = rw e refl

order-rises : (cs : List RowCall) → Rises sequence_of (in_sequence cs)
unfolding in_sequence
order-rises [] = tt
order-rises (c ∷ cs) = placed-rises c (in_sequence cs) (order-rises cs)

order-kept : (s : ℕ) (cs : List RowCall) → filter (λ x. sequence_of x == s) (in_sequence cs) ≡ filter (λ x. sequence_of x == s) cs
unfolding in_sequence
order-kept s [] = refl
order-kept s (c ∷ cs) = placed-kept s c (in_sequence cs) ∙ first-kept (sequence_of c == s) c _ _ (order-kept s cs)

-- a stable sort by sequence is the rows in order
pub sorted-order : (cs ys : List RowCall) → IsNonDecreasingBy sequence_of ys → ((s : ℕ) → filter (λ x. sequence_of x == s) ys ≡ filter (λ x. sequence_of x == s) cs) → ys ≡ in_sequence cs
sorted-order cs ys up kept = same-order sequence_of ys (in_sequence cs) (rises-index sequence_of ys up) (order-rises cs) (λ s. kept s ∙ sym (order-kept s cs))
