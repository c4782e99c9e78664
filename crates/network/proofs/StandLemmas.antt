-- What stands at a place of lists that are joined, and of lists that are made for each number of a range.
use Rattle.std.proofs.Common.{◌≡◌, ℕ, zero, suc, ◌+◌, ◌*◌, ◌<◌, List, [], ◌∷◌, ◌++◌, ◌⊎◌, Some, length, refl, ◌∙◌, inl, inr, arith}
use Rattle.std.specs.Prelude.{flat_map, map, slice_get, sum_by}
use Rattle.std.specs.List.{range_with_len}
use Rattle.std.proofs.lemmas.List.Sums.{sum_by-cons}

-- ---- joined lists

-- what stands in the first of two lists
pub at_left : {A : Type 0} (xs ys : List A) (i : ℕ) (x : A) → slice_get xs i ≡ Some x → slice_get (xs ++ ys) i ≡ Some x
at_left [] ys i x h = absurd cc
at_left (z ∷ xs) ys zero x h = h
at_left (z ∷ xs) ys (suc i) x h = at_left xs ys i x h

-- what stands in the second
pub at_right : {A : Type 0} (xs ys : List A) (n i : ℕ) → n ≡ length xs + i → slice_get (xs ++ ys) n ≡ slice_get ys i
at_right [] ys n i e = let z : n ≡ i = omega arith in rw z refl
at_right (x ∷ xs) ys zero i e = absurd (omega arith)
at_right (x ∷ xs) ys (suc n) i e = at_right xs ys n i (omega arith)

-- an element of two joined lists stands in the first or in the second
pub record StandsIn {A : Type 0} (ys : List A) (start place : ℕ) (x : A) : Type 0 where
  pub rest : ℕ
  pub is : place ≡ start + rest
  pub found : slice_get ys rest ≡ Some x

pub either : {A : Type 0} (xs ys : List A) (i : ℕ) (x : A) → slice_get (xs ++ ys) i ≡ Some x → (slice_get xs i ≡ Some x) ⊎ StandsIn ys (length xs) i x
either [] ys i x h = inr (record { rest = i; is = omega arith; found = h })
either (z ∷ xs) ys zero x h = inl h
either (z ∷ xs) ys (suc i) x h = elim (either xs ys i x h) [
  | inl e ↦ inl e
  | inr e ↦ inr (record { rest = e.rest; is = let back = e.is in omega arith; found = e.found })
]

-- ---- numbers of a range

-- what a function gives at a number of a range
pub mapped : {A : Type 0} (f : ℕ → A) (a n i : ℕ) → i < n → slice_get (map f (range_with_len a n)) i ≡ Some (f (a + i))
mapped f a zero i lt = absurd (omega arith)
mapped f a (suc n) zero lt = let z : a + zero ≡ a = omega arith in rw z refl
mapped f a (suc n) (suc i) lt = let z : a + suc i ≡ a + 1 + i = omega arith in rw z (mapped f (a + 1) n i (omega arith))

-- and nothing else
pub mapped_only : {A : Type 0} (f : ℕ → A) (a n i : ℕ) (x : A) → slice_get (map f (range_with_len a n)) i ≡ Some x → (i < n) × (x ≡ f (a + i))
mapped_only f a zero i x h = absurd cc
mapped_only f a (suc n) zero x h = let z : a + zero ≡ a = omega arith in (omega arith, rw z cc)
mapped_only f a (suc n) (suc i) x h =
    let rest = mapped_only f (a + 1) n i x h in
    let z : a + suc i ≡ a + 1 + i = omega arith in
    let lt = rest.0 in
    (omega arith, rw z rest.1)

-- a list for each number of a range, one after the other
pub gathered : {A : Type 0} (f : ℕ → List A) (a n i j place : ℕ) (x : A) → i < n → slice_get (f (a + i)) j ≡ Some x →
    place ≡ sum_by (λ k. length (f k)) (range_with_len a i) + j → slice_get (flat_map f (range_with_len a n)) place ≡ Some x
gathered f a zero i j place x lt h e = absurd (omega arith)
gathered f a (suc n) zero j place x lt h e =
    let z : a + zero ≡ a = omega arith in
    let here : place ≡ j = omega arith in
    rw here (at_left (f a) (flat_map f (range_with_len (a + 1) n)) j x (rw z at h))
gathered f a (suc n) (suc i) j place x lt h e =
    let z : a + suc i ≡ a + 1 + i = omega arith in
    let rest : ℕ = sum_by (λ k. length (f k)) (range_with_len (a + 1) i) + j in
    let more = sum_by-cons (λ k. length (f k)) a (range_with_len (a + 1) i) in
    let there : place ≡ length (f a) + rest = omega arith in
    at_right (f a) (flat_map f (range_with_len (a + 1) n)) place rest there ∙ gathered f (a + 1) n i j rest x (omega arith) (rw z at h) refl

-- an element of these lists stands in one of them
pub record StandsAt {A : Type 0} (f : ℕ → List A) (a n place : ℕ) (x : A) : Type 0 where
  pub number : ℕ
  pub rest : ℕ
  pub within : number < n
  pub found : slice_get (f (a + number)) rest ≡ Some x
  pub is : place ≡ sum_by (λ k. length (f k)) (range_with_len a number) + rest

pub gathered_only : {A : Type 0} (f : ℕ → List A) (a n place : ℕ) (x : A) → slice_get (flat_map f (range_with_len a n)) place ≡ Some x → StandsAt f a n place x
gathered_only f a zero place x h = absurd cc
gathered_only f a (suc n) place x h = elim (either (f a) (flat_map f (range_with_len (a + 1) n)) place x h) [
  | inl e ↦ let z : a + zero ≡ a = omega arith in record { number = 0; rest = place; within = omega arith; found = rw z e; is = omega arith }
  | inr e ↦
      let later = gathered_only f (a + 1) n e.rest x e.found in
      let z : a + suc later.number ≡ a + 1 + later.number = omega arith in
      let lt = later.within in
      let here = e.is in
      let there = later.is in
      let more = sum_by-cons (λ k. length (f k)) a (range_with_len (a + 1) later.number) in
      record { number = suc later.number; rest = later.rest; within = omega arith; found = rw z later.found; is = omega arith }
]

-- lists of one length
pub same_lengths : {A : Type 0} (f : ℕ → List A) (size a n : ℕ) → ((i : ℕ) → length (f i) ≡ size) → sum_by (λ k. length (f k)) (range_with_len a n) ≡ size * n
same_lengths f size a zero each = omega arith
same_lengths f size a (suc n) each =
    let rest = same_lengths f size (a + 1) n each in
    let more = sum_by-cons (λ k. length (f k)) a (range_with_len (a + 1) n) in
    let one = each a in
    let times : size * suc n ≡ size + size * n = omega arith in
    omega arith
