-- The digits that are read are those of the number.
use Rattle.std.proofs.Common.{◌≡◌, ℕ, ◌+◌, ◌-◌, ◌*◌, ◌/◌, ◌%◌, ◌^◌, ◌<◌, ◌≤◌, Bool, true, false, cond, List, [], ◌∷◌, ◌++◌, length, Ok, Err, refl, sym, ap, subst, ◌∙◌, append_assoc, arith, inl, inr, lit≤}
use Rattle.std.specs.Bool.{nat_lt, ◌==◌}
use Rattle.std.specs.Prelude.{◌&&◌}
use Rattle.std.specs.Fmt.{decimal}
use Rattle.std.proofs.lemmas.Fmt.{decimal_digit, decimal_step_wide, decimal_by_steps_wide}
use Rattle.std.proofs.lemmas.Bool.Decides.{eqb_tells, leb_tells}
use Rattle.std.proofs.lemmas.Bool.{ltb-true, eqb-true, le-leb, lt-ltb, cases_lt}
use Rattle.certificate.specs.declared.fault.Fault.TheVariants as fault
use Rattle.certificate.specs.Bytes.{is_digit, digits_on, digits_at}
use Rattle.certificate.proofs.Readers.{done, ok_is, held, chosen}

-- a number of 28 digits is below it
abbrev pub TOP : ℕ
TOP = 10000000000000000000000000000

-- a number below it has fewer than 28 digits
abbrev MORE : ℕ
MORE = 1000000000000000000000000000

-- what a digit is
record IsDigit (b : ℕ) : Type 0 where
  low : 48 ≤ b
  high : b ≤ 57

digit_is : (b : ℕ) → is_digit b ≡ true → IsDigit b
digit_is b h = elim (leb_tells 48 b) [
  | inl low ↦ elim (leb_tells b 57) [ inl high ↦ record { low = low.1; high = high.1 } | inr high ↦ absurd (let e : is_digit b ≡ false = rw (low.0, high.0) refl in cc) ]
  | inr low ↦ absurd (let e : is_digit b ≡ false = rw low.0 refl in cc)
]

-- one more digit
one_more : (n d : ℕ) → 0 < n → n < MORE → d < 10 → decimal (n * 10 + d) ≡ decimal n ++ (48 + d) ∷ []
one_more n d pos small lt =
    let q : (n * 10 + d) / 10 ≡ n = omega arith in
    let r : (n * 10 + d) % 10 ≡ d = omega arith in
    let step : decimal (n * 10 + d) ≡ decimal ((n * 10 + d) / 10) ++ (48 + (n * 10 + d) % 10) ∷ [] = decimal_step_wide (n * 10 + d) (omega arith) (let big : 10000000000000000000000000000 ≤ 10 ^ 64 = lit≤ tt in omega arith) in
    step ∙ rw (q, r) refl

-- both tests hold
both : (a b : Bool) (A : Type 0) → (a ≡ true → b ≡ true → A) → ((a && b) ≡ true) → A
both true true A f h = f refl refl
both true false A f h = absurd cc
both false b A f h = absurd cc

-- digits are taken from the front of bytes, up to a byte that is none or to the last that a number may have
record OnTakes (n : ℕ) (bytes : List ℕ) (p : ℕ × List ℕ) : Type 0 where
  parts : decimal n ++ bytes ≡ decimal p.0 ++ p.1
  positive : 0 < p.0
  small : p.0 < TOP
  ends : (c : ℕ) (cs : List ℕ) → p.1 ≡ c ∷ cs → (is_digit c && nat_lt p.0 MORE) ≡ false

takes_step : (n b : ℕ) (bs : List ℕ) (t : Bool) → 0 < n → n < TOP → (is_digit b && nat_lt n MORE) ≡ t →
    (0 < n * 10 + (b - 48) → n * 10 + (b - 48) < TOP → OnTakes (n * 10 + (b - 48)) bs (digits_on (n * 10 + (b - 48)) bs)) →
    OnTakes n (b ∷ bs) (cond t (digits_on (n * 10 + (b - 48)) bs) (n, b ∷ bs))
takes_step n b bs false pos lt e ih = record {
  parts = refl;
  positive = pos;
  small = lt;
  ends = λ c cs h. (let same : b ≡ c = cc in subst (λ x. (is_digit x && nat_lt n MORE) ≡ false) same e);
}
takes_step n b bs true pos lt e ih =
    both (is_digit b) (nat_lt n MORE) (OnTakes n (b ∷ bs) (digits_on (n * 10 + (b - 48)) bs)) (λ digit less.
    let range = digit_is b digit in
    let small : n < MORE = ltb-true n MORE less in
    let low : 48 ≤ b = range.low in
    let high : b ≤ 57 = range.high in
    let on : OnTakes (n * 10 + (b - 48)) bs (digits_on (n * 10 + (b - 48)) bs) = ih (omega arith) (omega arith) in
    let back : 48 + (b - 48) ≡ b = omega arith in
    let spelled : decimal (n * 10 + (b - 48)) ≡ decimal n ++ (b ∷ []) = one_more n (b - 48) pos small (omega arith) ∙ ap (λ c. decimal n ++ (c ∷ [])) back in
    record {
      parts = sym (append_assoc (decimal n) (b ∷ []) bs) ∙ ap (λ ds. ds ++ bs) (sym spelled) ∙ on.parts;
      positive = on.positive;
      small = on.small;
      ends = on.ends;
    }) e

on_takes : (n : ℕ) (bytes : List ℕ) → 0 < n → n < TOP → OnTakes n bytes (digits_on n bytes)
on_takes n [] pos lt = record { parts = refl; positive = pos; small = lt; ends = λ c cs h. absurd cc }
on_takes n (b ∷ bs) pos lt = takes_step n b bs (is_digit b && nat_lt n MORE) pos lt refl (λ p l. on_takes (n * 10 + (b - 48)) bs p l)

-- ---- digits that are read again

is_digit_of : (d : ℕ) → d < 10 → is_digit (48 + d) ≡ true
is_digit_of d lt = rw (le-leb 48 (48 + d) (omega arith), le-leb (48 + d) 57 (omega arith)) refl

first : (n : ℕ) → n < 10 → 0 < n → (rest : List ℕ) → digits_at ((48 + n) ∷ rest) ≡ Ok (digits_on n rest)
first n lt pos rest =
    let other : (48 + n) == 48 ≡ false = elim (eqb_tells (48 + n) 48) [ inl w ↦ absurd (omega arith) | inr w ↦ w.0 ] in
    let value : 48 + n - 48 ≡ n = omega arith in
    rw (other, is_digit_of n lt, value) refl

-- after a number's digits its reading goes on from there
front : (n : ℕ) → n < TOP → 0 < n → (rest : List ℕ) → digits_at (decimal n ++ rest) ≡ Ok (digits_on n rest)
front n lt pos =
    decimal_by_steps_wide (λ n ds. 0 < n → n < TOP → (rest : List ℕ) → digits_at (ds ++ rest) ≡ Ok (digits_on n rest))
    (λ n lt pos top rest. first n lt pos rest)
    (λ n ds ge ih pos top rest.
    let less : n / 10 < MORE = omega arith in
    let digit : is_digit (48 + n % 10) ≡ true = is_digit_of (n % 10) (omega arith) in
    let value : n / 10 * 10 + (48 + n % 10 - 48) ≡ n = omega arith in
    let on : digits_on (n / 10) ((48 + n % 10) ∷ rest) ≡ digits_on n rest = rw (digit, lt-ltb (n / 10) MORE less, value) refl in
    ap digits_at (append_assoc ds ((48 + n % 10) ∷ []) rest) ∙ ih (omega arith) (omega arith) ((48 + n % 10) ∷ rest) ∙ ap (λ (p : ℕ × List ℕ). Ok p) on)
    n (let big : 10000000000000000000000000000 ≤ 10 ^ 64 = lit≤ tt in omega arith) pos lt

-- a number's digits are read again before a byte that is none
pub digits_again : (n end : ℕ) (rest : List ℕ) → n < TOP → is_digit end ≡ false → digits_at (decimal n ++ end ∷ rest) ≡ Ok (n, end ∷ rest)
digits_again n end rest lt stops = elim (cases_lt 0 n) [
  | inl pos ↦ front n lt pos (end ∷ rest) ∙ (let on : digits_on n (end ∷ rest) ≡ (n, end ∷ rest) = rw stops refl in ap (λ (p : ℕ × List ℕ). Ok p) on)
  | inr none ↦ (let zero_is : decimal 0 ≡ 48 ∷ [] = decimal_digit 0 (omega arith) in
      let n-is : n ≡ 0 = omega arith in
      rw (n-is, zero_is) refl)
]

-- ---- digits that are taken

-- a number is read from the front of bytes, and from any others that begin like them up to the byte after it
pub record DigitsTaken (bytes : List ℕ) (p : ℕ × List ℕ) : Type 0 where
  pub parts : bytes ≡ decimal p.0 ++ p.1
  pub small : p.0 < TOP
  pub again : (c : ℕ) (cs other : List ℕ) → p.1 ≡ c ∷ cs → digits_at (decimal p.0 ++ c ∷ other) ≡ Ok (p.0, c ∷ other)

pub digits_taken : (bytes : List ℕ) (p : ℕ × List ℕ) → digits_at bytes ≡ Ok p → DigitsTaken bytes p
digits_taken [] p e = absurd cc
digits_taken (b ∷ bs) p e = elim (chosen (b == 48) (done (0, bs)) (cond (is_digit b) (Ok (digits_on (b - 48) bs)) (Err (fault.Stop (length (b ∷ bs))))) (Ok p) e) [
  | inl w ↦ (let zero_is : decimal 0 ≡ 48 ∷ [] = decimal_digit 0 (omega arith) in
      let b-is : b ≡ 48 = eqb-true b 48 w.0 in
      let taken : DigitsTaken (b ∷ bs) (0, bs) = record {
        parts = ap (λ x. x ∷ bs) b-is ∙ ap (λ ds. ds ++ bs) (sym zero_is);
        small = omega arith;
        again = λ c cs other h. rw zero_is refl;
      } in
      subst (DigitsTaken (b ∷ bs)) (ok_is (0, bs) p w.1) taken)
  | inr w ↦ (let h = held (is_digit b) (fault.Stop (length (b ∷ bs))) (digits_on (b - 48) bs) p w.1 in
      let range = digit_is b h.0 in
      let low : 48 ≤ b = range.low in
      let high : b ≤ 57 = range.high in
      let more : 48 < b = elim (eqb_tells b 48) [ inl same ↦ absurd (let t : b == 48 ≡ true = same.0 in let f : b == 48 ≡ false = w.0 in cc) | inr other ↦ (let ne = other.1 in omega arith) ] in
      let digit : decimal (b - 48) ≡ (48 + (b - 48)) ∷ [] = decimal_digit (b - 48) (omega arith) in
      let back : 48 + (b - 48) ≡ b = omega arith in
      let on = on_takes (b - 48) bs (omega arith) (omega arith) in
      let n : ℕ = (digits_on (b - 48) bs).0 in
      let taken : DigitsTaken (b ∷ bs) (digits_on (b - 48) bs) = record {
        parts = ap (λ c. c ∷ bs) (sym back) ∙ ap (λ ds. ds ++ bs) (sym digit) ∙ on.parts;
        small = on.small;
        again = λ c cs other e.
            let ends : (is_digit c && nat_lt n MORE) ≡ false = on.ends c cs e in
            let here : digits_on n (c ∷ other) ≡ (n, c ∷ other) = rw ends refl in
            front n on.small on.positive (c ∷ other) ∙ ap (λ (q : ℕ × List ℕ). Ok q) here;
      } in
      subst (DigitsTaken (b ∷ bs)) h.1 taken)
]
