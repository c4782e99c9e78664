-- Counted trips that stand by line, and the trips of one line among them.
use Rattle.std.proofs.Common.{◌≡◌, ℕ, zero, suc, ◌+◌, ◌-◌, ◌<◌, ◌≤◌, Bool, true, false, List, [], ◌∷◌, length, take, drop, get_or, refl, sym, ap, ◌∙◌, inl, inr, arith, is_lt, eq-eqb, length-drop}
use Rattle.std.specs.Prelude.{◌==◌, ◌&&◌, not, filter}
use Rattle.std.specs.List.{prefix_len}
use Rattle.std.specs.List.Sorted.{IsNonDecreasingBy, IsStableByKey}
use Rattle.std.specs.Ordering.{nat_cmp}
use Rattle.std.proofs.Math.Seq.{drop-nil}
use Rattle.std.proofs.lemmas.Bool.{cases_Bool, ne_eqb}
use Rattle.std.proofs.lemmas.Bool.Decides.{nat_tests}
use Rattle.std.proofs.lemmas.List.Elements.{filter_agree}
use Rattle.std.proofs.lemmas.List.Sorted.{IsNonDecreasingBy-drop}
use Rattle.std.proofs.lemmas.List.Sums.{prefix_len-le-length}
use Rattle.headways.specs.declared.numbering.Counted.{Counted}
use Rattle.headways.specs.Numbering.{line_number}

-- numbers tie where they are equal
tie-is : (a b : ℕ) → (not (is_lt (nat_cmp a b)) && not (is_lt (nat_cmp b a))) ≡ (b == a)
tie-is a b = grind (arith, nat_tests)

-- the elements of one key stay in their order
pub kept-by-key : {A : Type 0} (key : A → ℕ) (xs ys : List A) → IsStableByKey key nat_cmp xs ys → (x : A) → filter (λ y. key y == key x) ys ≡ filter (λ y. key y == key x) xs
kept-by-key key xs ys stable x =
    filter_agree _ _ (λ y. sym (tie-is (key x) (key y))) ys ∙ stable x ∙ filter_agree _ _ (λ y. tie-is (key x) (key y)) xs

-- each key is at least a number
abbrev pub From : {A : Type 0} → (A → ℕ) → ℕ → List A → Type 0
From key n [] = Unit {0}
From key n (x ∷ xs) = (n ≤ key x) × From key n xs

-- each key is at least those before it
abbrev pub Rises : {A : Type 0} → (A → ℕ) → List A → Type 0
Rises key [] = Unit {0}
Rises key (x ∷ xs) = From key (key x) xs × Rises key xs

pub from-less : {A : Type 0} (key : A → ℕ) (m n : ℕ) (xs : List A) → m ≤ n → From key n xs → From key m xs
from-less key m n [] le h = tt
from-less key m n (x ∷ xs) le h = (let low = h.0 in omega arith, from-less key m n xs le h.1)

pub none-below : {A : Type 0} (key : A → ℕ) (s n : ℕ) (xs : List A) → s < n → From key n xs → filter (λ x. key x == s) xs ≡ []
none-below key s n [] lt h = refl
none-below key s n (x ∷ xs) lt h =
    let low = h.0 in
    let differs : (key x == s) ≡ false = ne_eqb _ _ (λ e. absurd (omega arith)) in
    rw differs (none-below key s n xs lt h.1)

-- what is said by index
from-index : {A : Type 0} (key : A → ℕ) (n : ℕ) (xs : List A) → ((i : ℕ) (d : A) → i < length xs → n ≤ key (get_or xs i d)) → From key n xs
from-index key n [] h = tt
from-index key n (x ∷ xs) h = (h 0 x (omega arith), from-index key n xs (λ i d lt. h (suc i) d (omega arith)))

pub rises-index : {A : Type 0} (key : A → ℕ) (xs : List A) → IsNonDecreasingBy key xs → Rises key xs
rises-index key [] h = tt
rises-index key (x ∷ xs) h = (from-index key (key x) xs (λ i d lt. h 0 (suc i) d (omega arith) (omega arith)), rises-index key xs (λ i j d le lt. h (suc i) (suc j) d (omega arith) (omega arith)))

-- the elements in front that are of one key are all of that key, where no key is less and keys rise
pub front-all : {A : Type 0} (key : A → ℕ) (t : ℕ) (xs : List A) → From key t xs → Rises key xs
    → take (prefix_len (λ x. key x == t) xs) xs ≡ filter (λ x. key x == t) xs
front-all key t [] low up = refl
front-all {A} key t (x ∷ xs) low up = elim (cases_Bool (key x == t)) [
  | inl e ↦
      let more : 1 + prefix_len (λ y. key y == t) xs ≡ suc (prefix_len (λ y. key y == t) xs) = omega arith in
      rw (e, more) (ap (λ (ys : List A). x ∷ ys) (front-all key t xs low.1 up.1))
  | inr e ↦
      let least = low.0 in
      let above : t < key x = grind (arith, nat_tests) in
      rw e (sym (none-below key t (key x) xs above up.0))
]

-- behind them each key is greater
pub behind-from : {A : Type 0} (key : A → ℕ) (t : ℕ) (xs : List A) → From key t xs → Rises key xs
    → From key (t + 1) (drop (prefix_len (λ x. key x == t) xs) xs)
behind-from key t [] low up = tt
behind-from key t (x ∷ xs) low up = elim (cases_Bool (key x == t)) [
  | inl e ↦
      let more : 1 + prefix_len (λ y. key y == t) xs ≡ suc (prefix_len (λ y. key y == t) xs) = omega arith in
      rw (e, more) (behind-from key t xs low.1 up.1)
  | inr e ↦
      let least = low.0 in
      let above : t + 1 ≤ key x = grind (arith, nat_tests) in
      rw e (above, from-less key (t + 1) (key x) xs above up.0)
]

-- and of another key there are as many as before
pub behind-kept : {A : Type 0} (key : A → ℕ) (t u : ℕ) (xs : List A) → t < u
    → filter (λ x. key x == u) (drop (prefix_len (λ x. key x == t) xs) xs) ≡ filter (λ x. key x == u) xs
behind-kept key t u [] lt = refl
behind-kept key t u (x ∷ xs) lt = elim (cases_Bool (key x == t)) [
  | inl e ↦
      let more : 1 + prefix_len (λ y. key y == t) xs ≡ suc (prefix_len (λ y. key y == t) xs) = omega arith in
      let differs : (key x == u) ≡ false = grind (arith, nat_tests) in
      rw (e, more, differs) (behind-kept key t u xs lt)
  | inr e ↦ rw e refl
]

-- where the walk over the counted trips stands before a line: none is left of an earlier line, and all of later ones are
pub record IsBefore (counted : List Counted) (line start : ℕ) : Type 0 where
  pub within : start ≤ length counted
  pub low : From line_number line (drop start counted)
  pub left : (later : ℕ) → line ≤ later → filter (λ found. line_number found == later) (drop start counted) ≡ filter (λ found. line_number found == later) counted

from-zero : (counted : List Counted) → From line_number 0 counted
from-zero [] = tt
from-zero (found ∷ counted) = (omega arith, from-zero counted)

pub before-first : (counted : List Counted) → IsBefore counted 0 0
before-first counted = record { within = omega arith; low = from-zero counted; left = λ later le. refl }

-- how many trips of a line begin there
abbrev pub size_of : List Counted → ℕ → ℕ → ℕ
size_of counted line start = prefix_len (λ found. line_number found == line) (drop start counted)

drop-twice : {A : Type 0} (a b : ℕ) (xs : List A) → drop b (drop a xs) ≡ drop (a + b) xs
drop-twice zero b xs = let e : 0 + b ≡ b = omega arith in rw e refl
drop-twice (suc a) b [] = drop-nil b ∙ sym (drop-nil (suc a + b))
drop-twice (suc a) b (x ∷ xs) = let e : suc a + b ≡ suc (a + b) = omega arith in rw e (drop-twice a b xs)

pub size-within : (counted : List Counted) (line start : ℕ) → start ≤ length counted → start + size_of counted line start ≤ length counted
size-within counted line start le =
    let least = prefix_len-le-length (λ found. line_number found == line) (drop start counted) in
    let size = length-drop start counted in
    omega arith

pub before-next : (counted : List Counted) (line start end : ℕ) → IsNonDecreasingBy line_number counted → IsBefore counted line start → end ≡ start + size_of counted line start
    → IsBefore counted (line + 1) end
before-next counted line start end sorted before e =
    let up = rises-index line_number (drop start counted) (IsNonDecreasingBy-drop line_number start counted sorted) in
    let behind : drop end counted ≡ drop (size_of counted line start) (drop start counted) = rw e (sym (drop-twice start (size_of counted line start) counted)) in
    record {
      within = rw e (size-within counted line start before.within);
      low = rw behind (behind-from line_number line (drop start counted) before.low up);
      left = λ later le. rw behind (behind-kept line_number line later (drop start counted) (omega arith)) ∙ before.left later (omega arith);
    }

pub before-run : (counted : List Counted) (line start end : ℕ) → IsNonDecreasingBy line_number counted → IsBefore counted line start → end ≡ start + size_of counted line start
    → take (end - start) (drop start counted) ≡ filter (λ found. line_number found == line) counted
before-run counted line start end sorted before e =
    let up = rises-index line_number (drop start counted) (IsNonDecreasingBy-drop line_number start counted sorted) in
    let count : end - start ≡ size_of counted line start = omega arith in
    rw count (front-all line_number line (drop start counted) before.low up) ∙ before.left line (omega arith)
