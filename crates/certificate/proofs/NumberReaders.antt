-- Numbers are read by readers of at most 28 digits.
use Rattle.std.proofs.Common.{◌≡◌, ℕ, zero, suc, ◌+◌, ◌-◌, ◌*◌, ◌<◌, ◌≤◌, Bool, true, false, cond, List, [], ◌∷◌, ◌++◌, length, Result, Ok, Err, refl, sym, ap, subst, arith, inl, inr, length-append}
use Rattle.std.specs.Prelude.{nat_lt, ◌==◌, ◌&&◌}
use Rattle.std.proofs.lemmas.Bool.{ltb-true}
use Rattle.std.proofs.lemmas.Bool.Decides.{leb_tells, eqb_tells}
use Rattle.certificate.specs.declared.fault.Fault.{Fault}
use Rattle.certificate.specs.declared.fault.Fault.TheVariants as fault
use Rattle.certificate.specs.Bytes.{◌>>=◌, is_digit, digits_on, byte_at, number_at}
use Rattle.certificate.proofs.LineReaders.{plain, pair, Takes, Lasts, IsReader, takes_then, takes_within, then_reader, byte_reader}

-- the digits that go on, and the byte that ends them
abbrev number_on : ℕ → ℕ → List ℕ → Result (ℕ × List ℕ) Fault
number_on end n bytes = byte_at end (digits_on n bytes).1 >>= λ rest. Ok ((digits_on n bytes).0, rest)

-- so many digits more make the number so long that no digit follows
abbrev IsFull : ℕ → ℕ → Type 0
IsFull zero n = 1000000000000000000000000000 ≤ n
IsFull (suc k) n = IsFull k (n * 10)

full_more : (k m n : ℕ) → m ≤ n → IsFull k m → IsFull k n
full_more zero m n low h = omega arith
full_more (suc k) m n low h = full_more k (m * 10) (n * 10) (omega arith) h

-- the byte that ends a number
abbrev ends : (end n : ℕ) (bytes : List ℕ) → Result (ℕ × List ℕ) Fault
ends end n bytes = byte_at end bytes >>= λ rest. Ok (n, rest)

pub last_reader : (n : ℕ) → IsReader plain pair 0 (λ (rest : List ℕ). Ok (n, rest))
last_reader n = record { takes = λ x. (omega arith, omega arith); lasts = λ x more. refl }

ends_reader : (end n : ℕ) → IsReader plain pair 1 (λ bytes. byte_at end bytes >>= λ rest. Ok (n, rest))
ends_reader end n = then_reader plain plain pair 1 0 (byte_at end) (λ rest. Ok (n, rest)) (byte_reader end) (last_reader n)

both_hold : (a b : Bool) → (a && b) ≡ true → b ≡ true
both_hold true b h = h
both_hold false b h = absurd cc

on_takes_if : (end n b k : ℕ) (bs : List ℕ) (t : Bool) → (is_digit b && nat_lt n 1000000000000000000000000000) ≡ t → IsFull k n →
    ((m : ℕ) → suc m ≡ k → Takes pair (m + 1) (length bs) (number_on end (n * 10 + (b - 48)) bs)) →
    Takes pair (k + 1) (length (b ∷ bs)) (byte_at end (cond t (digits_on (n * 10 + (b - 48)) bs) (n, b ∷ bs)).1 >>= λ rest. Ok ((cond t (digits_on (n * 10 + (b - 48)) bs) (n, b ∷ bs)).0, rest))
on_takes_if end n b k bs false e full ih = takes_within pair 1 (k + 1) (length (b ∷ bs)) (ends end n (b ∷ bs)) (omega arith) ((ends_reader end n).takes (b ∷ bs))
on_takes_if end n b zero bs true e full ih =
    absurd (let low : n < 1000000000000000000000000000 = ltb-true n 1000000000000000000000000000 (both_hold (is_digit b) (nat_lt n 1000000000000000000000000000) e) in omega arith)
on_takes_if end n b (suc m) bs true e full ih =
    takes_within pair (1 + (m + 1)) (suc m + 1) (length (b ∷ bs)) (number_on end (n * 10 + (b - 48)) bs) (omega arith)
    (takes_then pair 1 (m + 1) (length (b ∷ bs)) (length bs) (number_on end (n * 10 + (b - 48)) bs) (omega arith) (omega arith) (ih m refl))

on_takes : (end n k : ℕ) (bytes : List ℕ) → IsFull k n → Takes pair (k + 1) (length bytes) (number_on end n bytes)
on_takes end n k [] full = (omega arith, omega arith)
on_takes end n k (b ∷ bs) full =
    on_takes_if end n b k bs (is_digit b && nat_lt n 1000000000000000000000000000) refl full
    (λ m e. on_takes end (n * 10 + (b - 48)) m bs (full_more m (n * 10) (n * 10 + (b - 48)) (omega arith) (subst (λ k. IsFull k n) (sym e) full)))

on_lasts_if : (end n b : ℕ) (bs more : List ℕ) (t : Bool) → Lasts pair more (number_on end (n * 10 + (b - 48)) bs) (number_on end (n * 10 + (b - 48)) (bs ++ more)) →
    Lasts pair more (byte_at end (cond t (digits_on (n * 10 + (b - 48)) bs) (n, b ∷ bs)).1 >>= λ rest. Ok ((cond t (digits_on (n * 10 + (b - 48)) bs) (n, b ∷ bs)).0, rest))
    (byte_at end (cond t (digits_on (n * 10 + (b - 48)) (bs ++ more)) (n, b ∷ bs ++ more)).1 >>= λ rest. Ok ((cond t (digits_on (n * 10 + (b - 48)) (bs ++ more)) (n, b ∷ bs ++ more)).0, rest))
on_lasts_if end n b bs more true ih = ih
on_lasts_if end n b bs more false ih = (ends_reader end n).lasts (b ∷ bs) more

-- the digits leave no more bytes than there are
on_shrinks_if : (n b : ℕ) (bs : List ℕ) (t : Bool) → length (digits_on (n * 10 + (b - 48)) bs).1 ≤ length bs → length (cond t (digits_on (n * 10 + (b - 48)) bs) (n, b ∷ bs)).1 ≤ length (b ∷ bs)
on_shrinks_if n b bs true h = omega arith
on_shrinks_if n b bs false h = omega arith

on_shrinks : (n : ℕ) (bytes : List ℕ) → length (digits_on n bytes).1 ≤ length bytes
on_shrinks n [] = omega arith
on_shrinks n (b ∷ bs) = on_shrinks_if n b bs (is_digit b && nat_lt n 1000000000000000000000000000) (on_shrinks (n * 10 + (b - 48)) bs)

on_ended : (end n : ℕ) (more : List ℕ) (y : ℕ × List ℕ) → number_on end n more ≡ Ok y → length y.1 ≤ length more
on_ended end n more y e =
    let takes : Takes pair 1 (length (digits_on n more).1) (Ok y) = subst (λ r. Takes pair 1 (length (digits_on n more).1) r) e ((ends_reader end (digits_on n more).0).takes (digits_on n more).1) in
    omega (arith, takes.0, on_shrinks n more)

on_lasts : (end n : ℕ) (bytes more : List ℕ) → Lasts pair more (number_on end n bytes) (number_on end n (bytes ++ more))
on_lasts end n [] more = λ y e. on_ended end n more y e
on_lasts end n (b ∷ bs) more = on_lasts_if end n b bs more (is_digit b && nat_lt n 1000000000000000000000000000) (on_lasts end (n * 10 + (b - 48)) bs more)

-- a number other than 0 has at most 28 digits
any_full : (n : ℕ) → 0 < n → IsFull 27 n
any_full n some = omega arith

-- the first digit tells how the number goes on
abbrev first_on : ℕ → ℕ → List ℕ → Bool → Bool → Result (ℕ × List ℕ) Fault
first_on end b bs z d =
    cond z (Ok (0, bs)) (cond d (Ok (digits_on (b - 48) bs)) (Err (fault.Stop (length (b ∷ bs))))) >>= λ n. byte_at end n.1 >>= λ rest. Ok (n.0, rest)

digit_some : (b : ℕ) → (b == 48) ≡ false → is_digit b ≡ true → 0 < b - 48
digit_some b other digit = elim (leb_tells 48 b) [
  | inl low ↦ elim (eqb_tells b 48) [ inl same ↦ absurd (let t : b == 48 ≡ true = same.0 in cc) | inr not ↦ (let l = low.1 in let ne = not.1 in omega arith) ]
  | inr low ↦ absurd (let e : is_digit b ≡ false = rw low.0 refl in cc)
]

first_takes : (end b : ℕ) (bs : List ℕ) (z d : Bool) → (b == 48) ≡ z → is_digit b ≡ d → Takes pair 29 (length (b ∷ bs)) (first_on end b bs z d)
first_takes end b bs true d ez ed =
    takes_within pair 2 29 (length (b ∷ bs)) (ends end 0 bs) (omega arith)
    (takes_then pair 1 1 (length (b ∷ bs)) (length bs) (ends end 0 bs) (omega arith) (omega arith) ((ends_reader end 0).takes bs))
first_takes end b bs false true ez ed =
    takes_then pair 1 28 (length (b ∷ bs)) (length bs) (number_on end (b - 48) bs) (omega arith) (omega arith) (on_takes end (b - 48) 27 bs (any_full (b - 48) (digit_some b ez ed)))
first_takes end b bs false false ez ed = (omega arith, omega arith)

first_lasts : (end b : ℕ) (bs more : List ℕ) (z d : Bool) → Lasts pair more (first_on end b bs z d) (first_on end b (bs ++ more) z d)
first_lasts end b bs more true d = (ends_reader end 0).lasts bs more
first_lasts end b bs more false true = on_lasts end (b - 48) bs more
first_lasts end b bs more false false = ap (λ n. Err (fault.Stop n)) (let h = length-append bs more in omega arith)

number_takes : (end : ℕ) (bytes : List ℕ) → Takes pair 29 (length bytes) (number_at end bytes)
unfolding number_at
number_takes end [] = (omega arith, omega arith)
number_takes end (b ∷ bs) = first_takes end b bs (b == 48) (is_digit b) refl refl

number_ended : (end : ℕ) (more : List ℕ) (y : ℕ × List ℕ) → number_at end more ≡ Ok y → length y.1 ≤ length more
number_ended end more y e = (subst (λ r. Takes pair 29 (length more) r) e (number_takes end more)).0

number_lasts : (end : ℕ) (bytes more : List ℕ) → Lasts pair more (number_at end bytes) (number_at end (bytes ++ more))
unfolding number_at
number_lasts end [] more = λ y e. number_ended end more y e
number_lasts end (b ∷ bs) more = first_lasts end b bs more (b == 48) (is_digit b)

pub number_reader : (end : ℕ) → IsReader plain pair 29 (number_at end)
number_reader end = record { takes = number_takes end; lasts = number_lasts end }
