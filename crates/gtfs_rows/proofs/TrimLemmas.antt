-- Steps of trimming.
use Rattle.std.proofs.Common.{◌≡◌, ℕ, suc, ◌<◌, ◌≤◌, ◌+◌, true, false, List, [], ◌∷◌, ◌++◌, length, take, drop, get_or, refl, sym, ap, ◌∙◌, arith}
use Rattle.std.specs.Prelude.{reverse}
use Rattle.std.proofs.lemmas.List.{reverse-append, take_all, take_more}
use Rattle.gtfs_rows.specs.Records.{drop_blanks, is_blank}

-- a blank in front goes, and another byte stops
pub blank-in-front : (xs : List ℕ) → 1 ≤ length xs → is_blank (get_or xs 0 0) ≡ true → drop_blanks (drop 1 xs) ≡ drop_blanks xs
unfolding drop_blanks
blank-in-front [] some h = absurd (omega arith)
blank-in-front (b ∷ bs) some h = rw h refl

pub none-in-front : (xs : List ℕ) → (1 ≤ length xs → is_blank (get_or xs 0 0) ≡ false) → drop_blanks xs ≡ xs
unfolding drop_blanks
none-in-front [] h = refl
none-in-front (b ∷ bs) h = let e = h (omega arith) in rw e refl

-- the last byte is the first one of the reverse
reverse-last : (xs : List ℕ) (n : ℕ) → length xs ≡ suc n → reverse xs ≡ get_or xs n 0 ∷ reverse (take n xs)
reverse-last xs n e =
    let lt : n < length xs = omega arith in
    let more = take_more xs n 0 lt in
    let all : take (n + 1) xs ≡ xs = take_all (n + 1) xs (omega arith) in
    let split : xs ≡ take n xs ++ (get_or xs n 0 ∷ []) = sym all ∙ more in
    ap reverse split ∙ reverse-append (take n xs) (get_or xs n 0 ∷ [])

pub blank-behind : (xs : List ℕ) (n : ℕ) → length xs ≡ suc n → is_blank (get_or xs n 0) ≡ true → drop_blanks (reverse (take n xs)) ≡ drop_blanks (reverse xs)
unfolding drop_blanks
blank-behind xs n e h = rw (reverse-last xs n e, h) refl

pub none-behind : (xs : List ℕ) (n : ℕ) → length xs ≡ suc n → is_blank (get_or xs n 0) ≡ false → drop_blanks (reverse xs) ≡ reverse xs
unfolding drop_blanks
none-behind xs n e h = rw (reverse-last xs n e, h) refl

pub nothing-behind : (xs ys : List ℕ) → length xs < 1 → drop_blanks (reverse xs) ≡ drop_blanks (reverse ys) → xs ≡ reverse (drop_blanks (reverse ys))
unfolding drop_blanks
nothing-behind [] ys few h = ap reverse h
nothing-behind (x ∷ xs) ys few h = absurd (omega arith)
