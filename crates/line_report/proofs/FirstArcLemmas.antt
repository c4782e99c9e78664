-- The first arc of a node stands behind the arcs of the node before.
use Rattle.std.proofs.Common.{◌≡◌, ℕ, ◌+◌, ◌<◌, ◌≤◌, ◌==◌, Bool, true, false, cond, List, [], ◌∷◌, length, refl, ap, ◌∙◌, arith}
use Rattle.std.specs.Prelude.{count_by, filter, nat_lt}
use Rattle.std.proofs.lemmas.Bool.{eqb-false, eqb-true, ltb-false, ltb-true}
use Rattle.std.proofs.lemmas.List.FromFn.{length-range_with_len}
use Rattle.std.proofs.lemmas.List.Sums.{count_by-le-length, sum_by-cons}
use Rattle.definitions.specs.Network.{NetworkData, arc_numbers, out_arcs, tail_of}
use Rattle.lp_model.specs.Parts.{first_arc}

-- a number below the next of another is below that one, or is that one
either_one : (b c d : Bool) (t n : ℕ) → (b ≡ true → t < n + 1) → (b ≡ false → n + 1 ≤ t) → (c ≡ true → t < n) → (c ≡ false → n ≤ t) → (d ≡ true → t ≡ n) → (d ≡ false → t ≡ n → ⊥) →
    cond b 1 0 ≡ cond c 1 0 + cond d 1 0
either_one true true true t n b1 b0 c1 c0 d1 d0 = absurd (let lt = c1 refl in let e = d1 refl in omega arith)
either_one true true false t n b1 b0 c1 c0 d1 d0 = refl
either_one true false true t n b1 b0 c1 c0 d1 d0 = refl
either_one true false false t n b1 b0 c1 c0 d1 d0 = absurd (d0 refl (let lt = b1 refl in let le = c0 refl in omega arith))
either_one false true true t n b1 b0 c1 c0 d1 d0 = absurd (let le = b0 refl in let lt = c1 refl in omega arith)
either_one false true false t n b1 b0 c1 c0 d1 d0 = absurd (let le = b0 refl in let lt = c1 refl in omega arith)
either_one false false true t n b1 b0 c1 c0 d1 d0 = absurd (let le = b0 refl in let e = d1 refl in omega arith)
either_one false false false t n b1 b0 c1 c0 d1 d0 = refl

one_number : (t n : ℕ) → cond (nat_lt t (n + 1)) 1 0 ≡ cond (nat_lt t n) 1 0 + cond (t == n) 1 0
one_number t n =
    either_one (nat_lt t (n + 1)) (nat_lt t n) (t == n) t n (ltb-true t (n + 1)) (ltb-false t (n + 1)) (ltb-true t n) (ltb-false t n) (eqb-true t n) (eqb-false t n)

-- one element more of a filter
kept_size : (b : Bool) (x : ℕ) (xs : List ℕ) → length (cond b (x ∷ xs) xs) ≡ cond b 1 0 + length xs
kept_size true x xs = omega arith
kept_size false x xs = omega arith

count_next : (f : ℕ → ℕ) (n : ℕ) (xs : List ℕ) → count_by (λ x. nat_lt (f x) (n + 1)) xs ≡ count_by (λ x. nat_lt (f x) n) xs + length (filter (λ x. f x == n) xs)
count_next f n [] = refl
count_next f n (x ∷ xs) =
    let rest = count_next f n xs in
    let here = one_number (f x) n in
    let one = sum_by-cons (λ y. cond (nat_lt (f y) (n + 1)) 1 0) x xs in
    let two = sum_by-cons (λ y. cond (nat_lt (f y) n) 1 0) x xs in
    let three = kept_size (f x == n) x (filter (λ y. f y == n) xs) in
    omega (arith, rest, here, one, two, three)

pub first_next : (net : NetworkData) (node : ℕ) → first_arc net (node + 1) ≡ first_arc net node + length (out_arcs net node)
first_next net node = count_next (tail_of net) node (arc_numbers net)

-- the first arc of the node after two more
pub first_after_two : (net : NetworkData) (node next : ℕ) → next ≡ node + 2 → first_arc net next ≡ first_arc net node + length (out_arcs net node) + length (out_arcs net (node + 1))
first_after_two net node next is =
    let e : next ≡ node + 1 + 1 = omega arith in
    let one = first_next net node in
    let two = first_next net (node + 1) in
    ap (first_arc net) e ∙ omega (arith, one, two)

-- no first arc is past the arcs
pub first_within : (net : NetworkData) (node : ℕ) → first_arc net node ≤ length net.arcs
first_within net node =
    let most = count_by-le-length (λ a. nat_lt (tail_of net a) node) (arc_numbers net) in
    let size = length-range_with_len 0 (length net.arcs) in
    omega arith
