-- The first of some faults.
use Rattle.std.proofs.Common.{◌≡◌, ℕ, zero, suc, ◌+◌, ◌-◌, ◌<◌, List, [], ◌∷◌, ◌++◌, Some, length, refl, sym, ap, ◌∙◌, inl, inr, arith, subst}
use Rattle.std.specs.Prelude.{flat_map, slice_get}
use Rattle.std.specs.List.{range_with_len}
use Rattle.std.proofs.lemmas.List.Concat.{flat_map-append}
use Rattle.feed_reader.specs.declared.fault.FeedFault.{FeedFault}
use Rattle.feed_reader.specs.Faults.{Fields, IsFirstFault, faults_of_rows}

-- the first fault of a front is that of the whole
first-front : (front rest : List FeedFault) (e : FeedFault) → slice_get front 0 ≡ Some e → slice_get (front ++ rest) 0 ≡ Some e
first-front [] rest e h = absurd (cc h)
first-front (f ∷ fs) rest e h = h

pub in-front : (front rest : List FeedFault) (e : FeedFault) → IsFirstFault front e → IsFirstFault (front ++ rest) e
in-front front rest e (inl h) = inl h
in-front front rest e (inr h) = inr (first-front front rest e h)

-- behind a front without faults
pub behind : (front rest : List FeedFault) (e : FeedFault) → front ≡ [] → IsFirstFault rest e → IsFirstFault (front ++ rest) e
behind front rest e none h = rw none h

-- two parts without faults
pub both-none : (front rest : List FeedFault) → front ≡ [] → rest ≡ [] → front ++ rest ≡ []
both-none front rest a b = rw (a, b) refl

range-split : (s m n : ℕ) → range_with_len s (m + n) ≡ range_with_len s m ++ range_with_len (s + m) n
range-split s zero n =
    let here : zero + n ≡ n = omega arith in
    let there : s + zero ≡ s = omega arith in
    ap (range_with_len s) here ∙ ap (λ (t : ℕ). range_with_len t n) (sym there)
range-split s (suc m) n =
    let here : suc m + n ≡ suc (m + n) = omega arith in
    let there : s + 1 + m ≡ s + suc m = omega arith in
    ap (range_with_len s) here
    ∙ ap (λ (rest : List ℕ). s ∷ rest) (range-split (s + 1) m n ∙ ap (λ (t : ℕ). range_with_len (s + 1) m ++ range_with_len t n) there)

append-nil : (xs : List FeedFault) → xs ++ [] ≡ xs
append-nil [] = refl
append-nil (x ∷ xs) = ap (λ (rest : List FeedFault). x ∷ rest) (append-nil xs)

-- the faults of a range in two parts
parts-of : (f : ℕ → List FeedFault) (i k n : ℕ) → i + k ≡ n → flat_map f (range_with_len 0 n) ≡ flat_map f (range_with_len 0 i) ++ flat_map f (range_with_len i k)
parts-of f i k n size =
    let zero-first : 0 + i ≡ i = omega arith in
    let split : range_with_len 0 (i + k) ≡ range_with_len 0 i ++ range_with_len i k = range-split 0 i k ∙ ap (λ (t : ℕ). range_with_len 0 i ++ range_with_len t k) zero-first in
    ap (λ (t : ℕ). flat_map f (range_with_len 0 t)) (sym size) ∙ ap (flat_map f) split ∙ flat_map-append f (range_with_len 0 i) (range_with_len i k)

-- one more row
pub rows-more : (f : ℕ → List FeedFault) (i : ℕ) → flat_map f (range_with_len 0 (i + 1)) ≡ flat_map f (range_with_len 0 i) ++ f i
rows-more f i = parts-of f i 1 (i + 1) refl ∙ ap (λ (rest : List FeedFault). flat_map f (range_with_len 0 i) ++ rest) (append-nil (f i))

-- one more row without a fault
pub none-more : (f : ℕ → List FeedFault) (i : ℕ) → flat_map f (range_with_len 0 i) ≡ [] → f i ≡ [] → flat_map f (range_with_len 0 (i + 1)) ≡ []
none-more f i before here = rows-more f i ∙ both-none (flat_map f (range_with_len 0 i)) (f i) before here

-- the first fault of a row, where the rows before have none, is that of all rows
pub first-of-rows : (f : ℕ → List FeedFault) (rows : List Fields) (i : ℕ) (e : FeedFault) → i < length rows → flat_map f (range_with_len 0 i) ≡ [] → IsFirstFault (f i) e
    → IsFirstFault (faults_of_rows f rows) e
first-of-rows f rows i e lt none h =
    let whole = parts-of f i (suc (length rows - i - 1)) (length rows) (omega (arith, lt)) in
    subst (λ (faults : List FeedFault). IsFirstFault faults e) (sym whole)
    (behind (flat_map f (range_with_len 0 i)) _ e none (in-front (f i) _ e h))
