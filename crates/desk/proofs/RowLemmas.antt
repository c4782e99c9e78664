-- Rows and sheets, made piece by piece.
use Rattle.std.proofs.Common.{◌≡◌, ℕ, ◌+◌, List, [], ◌∷◌, ◌++◌, refl, ap, sym, ◌∙◌, append_assoc, arith}
use Rattle.std.proofs.lemmas.List.{append-nil, flat_map_more}
use Rattle.std.specs.List.{flat_map, range_with_len}
use Rattle.definitions.proofs.Sums.{range_more}

-- the numbers below one more
pub numbers_more : (n : ℕ) → range_with_len 0 (n + 1) ≡ range_with_len 0 n ++ n ∷ []
numbers_more n = let e : 0 + n ≡ n = omega arith in range_more 0 n ∙ ap (λ x. range_with_len 0 n ++ x ∷ []) e

-- the rows of one thing more
pub rows_more : (front : List ℕ) (rows : ℕ → List ℕ) (n : ℕ) {t t' : List ℕ} → t ≡ front ++ flat_map rows (range_with_len 0 n) → t' ≡ t ++ rows n →
    t' ≡ front ++ flat_map rows (range_with_len 0 (n + 1))
rows_more front rows n before here =
    here
    ∙ ap (λ x. x ++ rows n) before
    ∙ flat_map_more rows front (range_with_len 0 n) n
    ∙ ap (λ r. front ++ flat_map rows r) (sym (numbers_more n))

-- a row of one field
pub one_field : (t a e : List ℕ) {t' : List ℕ} → t' ≡ t ++ (a ++ e) → t' ≡ t ++ ((a ++ []) ++ e)
one_field t a e is = is ∙ ap (λ x. t ++ (x ++ e)) (sym (append-nil a))

-- a row of two pieces
pub two_fields : (t a b e : List ℕ) {t1 t2 : List ℕ} → t1 ≡ t ++ a → t2 ≡ t1 ++ (b ++ e) → t2 ≡ t ++ ((a ++ (b ++ [])) ++ e)
two_fields t a b e one two = two ∙ ap (λ x. x ++ (b ++ e)) one ∙ regroup t a b e
  where
    regroup : (t a b e : List ℕ) → (t ++ a) ++ (b ++ e) ≡ t ++ ((a ++ (b ++ [])) ++ e)
    regroup t a b e = simp (append_assoc, append-nil) refl

-- a row of three pieces
pub three_fields : (t a b c e : List ℕ) {t1 t2 t3 : List ℕ} → t1 ≡ t ++ a → t2 ≡ t1 ++ b → t3 ≡ t2 ++ (c ++ e) → t3 ≡ t ++ ((a ++ (b ++ (c ++ []))) ++ e)
three_fields t a b c e one two three = three ∙ ap (λ x. x ++ (c ++ e)) two ∙ ap (λ x. (x ++ b) ++ (c ++ e)) one ∙ regroup t a b c e
  where
    regroup : (t a b c e : List ℕ) → ((t ++ a) ++ b) ++ (c ++ e) ≡ t ++ ((a ++ (b ++ (c ++ []))) ++ e)
    regroup t a b c e = simp (append_assoc, append-nil) refl

-- a row of five pieces
pub five_fields : (t a b c d f e : List ℕ) {t1 t2 t3 t4 t5 : List ℕ} → t1 ≡ t ++ a → t2 ≡ t1 ++ b → t3 ≡ t2 ++ c → t4 ≡ t3 ++ d → t5 ≡ t4 ++ (f ++ e) →
    t5 ≡ t ++ ((a ++ (b ++ (c ++ (d ++ (f ++ []))))) ++ e)
five_fields t a b c d f e one two three four five =
    five
    ∙ ap (λ x. x ++ (f ++ e)) four
    ∙ ap (λ x. (x ++ d) ++ (f ++ e)) three
    ∙ ap (λ x. ((x ++ c) ++ d) ++ (f ++ e)) two
    ∙ ap (λ x. (((x ++ b) ++ c) ++ d) ++ (f ++ e)) one
    ∙ regroup t a b c d f e
  where
    regroup : (t a b c d f e : List ℕ) → ((((t ++ a) ++ b) ++ c) ++ d) ++ (f ++ e) ≡ t ++ ((a ++ (b ++ (c ++ (d ++ (f ++ []))))) ++ e)
    regroup t a b c d f e = simp (append_assoc, append-nil) refl
