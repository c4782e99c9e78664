-- Numbers of digits, as `number` reads them.
use Rattle.std.proofs.Common.{◌≡◌, ◌<◌, ◌≤◌, ◌-◌, ◌^◌, ℕ, List, [], ◌∷◌, length, take, arith, true, false, refl, sym, ap, get_or, Some, None, ◌∙◌, inl, inr}
use Rattle.std.specs.Prelude.{nat_le, nat_lt}
use Rattle.std.specs.List.{list_all}
use Rattle.std.specs.Str.{all_ascii_digits}
use Rattle.std.specs.Str.Parse.{AllDigits, digits_value}
use Rattle.std.specs.Char.{digit_value, is_ascii_digit, IsNotAsciiDigit}
use Rattle.std.proofs.lemmas.Bool.{cases_Bool, and_parts, false_from_ne_true}
use Rattle.std.proofs.lemmas.Str.Parse.{IsNumeralModel, digit_at, digits_value_short, numerals_by_value, tells_all_ascii_digits}
use Rattle.std.proofs.lemmas.List.{take_all}
use Rattle.std.proofs.lemmas.Bool.Decides.{nat_tests}
use Rattle.gtfs_rows.specs.Fields.{is_digits, is_number, number_in}

-- digits as std's lemmas want them
pub own : IsNumeralModel (λ ds. all_ascii_digits ds ≡ true) (digits_value 10)
own = numerals_by_value _ tells_all_ascii_digits

pub value_of_digit : (c : ℕ) → 48 ≤ c → c ≤ 57 → digit_value c ≡ c - 48
value_of_digit c low high = grind (arith, nat_tests)

-- the two words for digits alone
pub same_digits : (field : List ℕ) → all_ascii_digits field ≡ list_all is_ascii_digit field
same_digits [] = refl
same_digits (d ∷ ds) = rw (same_digits ds) refl

-- a number is digits alone
all_digits : (most : ℕ) (field : List ℕ) → is_number most field ≡ true → all_ascii_digits field ≡ true
all_digits most field e =
    let parts = and_parts (nat_le (length field) most) (is_digits field) e in
    same_digits field ∙ (and_parts (nat_lt 0 (length field)) (list_all is_ascii_digit field) parts.1).1

-- a field that is no number has none
no_number : (most : ℕ) (field : List ℕ) → is_number most field ≡ false → None ≡ number_in most field
no_number most field e = rw e refl

-- a byte that is no digit
pub no_digit : (most : ℕ) (field : List ℕ) (i : ℕ) → i < length field → IsNotAsciiDigit (get_or field i 0) → None ≡ number_in most field
no_digit most field i test not =
    no_number most field (false_from_ne_true _ (λ e.
    let here = digit_at field i (own.to _ (all_digits most field e)) test in
    omega arith))

-- all bytes are digits
pub all_taken : (most : ℕ) (field : List ℕ) (i n : ℕ) → 0 < length field → length field ≤ most → length field ≤ i → AllDigits 10 (take i field)
    → n ≡ digits_value 10 (take i field) → Some n ≡ number_in most field
all_taken most field i n some short end digits value =
    let all : take i field ≡ field = take_all i field end in
    let good : list_all is_ascii_digit field ≡ true = sym (same_digits field) ∙ own.from _ (rw all at digits) in
    let number : is_number most field ≡ true = grind (arith, nat_tests) in
    let same : n ≡ digits_value 10 field = rw all at value in
    rw number (ap Some same)

-- a number of so many digits is below that power of ten
pub number_small : (field : List ℕ) (n most : ℕ) → Some n ≡ number_in most field → n < 10 ^ most
number_small field n most given = elim (cases_Bool (is_number most field)) [
  | inl good ↦
      let parts = and_parts (nat_le (length field) most) (is_digits field) good in
      let fit : nat_le (length field) most ≡ true = parts.0 in
      let few : length field ≤ most = grind (arith, nat_tests) in
      let short = digits_value_short own field most (all_digits most field good) few in
      let is : Some n ≡ Some (digits_value 10 field) = given ∙ rw good refl in
      let same : n ≡ digits_value 10 field = cc in
      omega (arith, short)
  | inr bad ↦ let none : Some n ≡ None = given ∙ rw bad refl in absurd (cc none)
]

-- what a number tells of its digits
pub number_is : (field : List ℕ) (n most : ℕ) → Some n ≡ number_in most field → (is_number most field ≡ true) × (n ≡ digits_value 10 field)
number_is field n most given = elim (cases_Bool (is_number most field)) [
  | inl good ↦ let is : Some n ≡ Some (digits_value 10 field) = given ∙ rw good refl in (good, cc)
  | inr bad ↦ let none : Some n ≡ None = given ∙ rw bad refl in absurd (cc none)
]
