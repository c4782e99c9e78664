-- Lists that are made for each element of a list, one after the other, whose keys are the places of the elements.
use Rattle.std.proofs.Common.{◌≡◌, ℕ, suc, ◌+◌, ◌-◌, ◌<◌, ◌≤◌, List, [], ◌∷◌, Some, length, get_or, refl, inl, inr, arith}
use Rattle.std.specs.Prelude.{All, flat_map, slice_get}
use Rattle.std.proofs.lemmas.Bool.{cases_lt}
use Rattle.std.proofs.lemmas.List.{length-append, get_or-append_right, get_or_append_left}
use Rattle.std.proofs.lemmas.List.Elements.{All-append, All-head, All-nil, All-tail, All-weaker}
use Rattle.std.proofs.lemmas.Option.{slice_get-get_or}

-- what holds of all that is made for each element holds of all
pub all_flat : {X A : Type 0} (P : A → Type 0) (f : X → List A) (xs : List X) → All (λ x. All P (f x)) xs → All P (flat_map f xs)
all_flat P f [] each = All-nil P
all_flat P f (x ∷ xs) each = All-append P (f x) (flat_map f xs) (All-head (λ x. All P (f x)) x xs each) (all_flat P f xs (All-tail (λ x. All P (f x)) x xs each))

-- what holds of each element that stands somewhere holds of all
pub all_stand : {X : Type 0} (P : X → Type 0) (xs : List X) → ((i : ℕ) (x : X) → slice_get xs i ≡ Some x → P x) → All P xs
all_stand P xs each k d lt = each k (get_or xs k d) (slice_get-get_or xs k d lt)

-- what is made for the element at a place has a key of its own
abbrev pub AreKeyed : {X A : Type 0} → (A → ℕ) → (X → List A) → List X → ℕ → Type 0
AreKeyed {X = X} {A = A} key f xs base = (i : ℕ) (x : X) → slice_get xs i ≡ Some x → All (λ a. key a ≡ base + i) (f x)

keyed_tail : {X A : Type 0} (key : A → ℕ) (f : X → List A) (x : X) (xs : List X) (base : ℕ) → AreKeyed key f (x ∷ xs) base → AreKeyed key f xs (base + 1)
keyed_tail key f x xs base keyed i y h k d lt = let one = keyed (suc i) y h k d lt in omega arith

-- all keys then are at least the first
keyed_from : {X A : Type 0} (key : A → ℕ) (f : X → List A) (xs : List X) (base : ℕ) → AreKeyed key f xs base → All (λ a. base ≤ key a) (flat_map f xs)
keyed_from key f [] base keyed = All-nil (λ a. base ≤ key a)
keyed_from key f (x ∷ xs) base keyed =
    All-append (λ a. base ≤ key a) (f x) (flat_map f xs)
    (λ k d lt. let one = keyed 0 x refl k d lt in omega arith)
    (All-weaker (λ a. base + 1 ≤ key a) (λ a. base ≤ key a) (λ a h. omega arith) (flat_map f xs) (keyed_from key f xs (base + 1) (keyed_tail key f x xs base keyed)))

-- and below the number of elements
pub keyed_below : {X A : Type 0} (key : A → ℕ) (f : X → List A) (xs : List X) (base : ℕ) → AreKeyed key f xs base → All (λ a. key a < base + length xs) (flat_map f xs)
keyed_below key f [] base keyed = All-nil (λ a. key a < base + 0)
keyed_below key f (x ∷ xs) base keyed =
    All-append (λ a. key a < base + suc (length xs)) (f x) (flat_map f xs)
    (λ k d lt. let one = keyed 0 x refl k d lt in omega arith)
    (All-weaker (λ a. key a < base + 1 + length xs) (λ a. key a < base + suc (length xs)) (λ a h. omega arith) (flat_map f xs)
    (keyed_below key f xs (base + 1) (keyed_tail key f x xs base keyed)))

-- and never fall
pub keyed_rise : {X A : Type 0} (key : A → ℕ) (f : X → List A) (xs : List X) (base : ℕ) → AreKeyed key f xs base → (d : A) (one later : ℕ) → one ≤ later →
    later < length (flat_map f xs) → key (get_or (flat_map f xs) one d) ≤ key (get_or (flat_map f xs) later d)
keyed_rise key f [] base keyed d one later le lt = absurd (omega arith)
keyed_rise key f (x ∷ xs) base keyed d one later le lt =
    let size = length-append (f x) (flat_map f xs) in
    let rest : AreKeyed key f xs (base + 1) = keyed_tail key f x xs base keyed in
    elim (cases_lt later (length (f x))) [
      | inl within ↦
          let first = keyed 0 x refl one d (omega arith) in
          let second = keyed 0 x refl later d within in
          rw (get_or_append_left (f x) (flat_map f xs) d one (omega arith), get_or_append_left (f x) (flat_map f xs) d later within) (omega arith)
      | inr past ↦ elim (cases_lt one (length (f x))) [
        | inl within ↦
            let first = keyed 0 x refl one d within in
            let second = keyed_from key f xs (base + 1) rest (later - length (f x)) d (omega arith) in
            rw (get_or_append_left (f x) (flat_map f xs) d one within, get_or-append_right (f x) (flat_map f xs) (length (f x)) later d refl past) (omega arith)
        | inr both ↦
            rw (get_or-append_right (f x) (flat_map f xs) (length (f x)) one d refl both, get_or-append_right (f x) (flat_map f xs) (length (f x)) later d refl past)
            (keyed_rise key f xs (base + 1) rest d (one - length (f x)) (later - length (f x)) (omega arith) (omega arith))
      ]
    ]
