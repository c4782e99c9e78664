-- Reading from the front of bytes: what is read and the bytes after it, or what stops it.
use Rattle.std.specs.Prelude.{◌≡◌, ℕ, ◌+◌, ◌-◌, ◌*◌, ◌==◌, ◌&&◌, nat_lt, nat_le, Bool, List, [], ◌∷◌, length, if◌then◌else◌, Result, Ok, Err}
use Rattle.certificate.specs.declared.fault.Fault.{Fault}
use Rattle.certificate.specs.declared.fault.Fault.TheVariants as fault

-- one reader after the other; the first that stops stops both
infixl 10 ◌>>=◌
abbrev pub ◌>>=◌ : {A B : Type 0} → Result A Fault → (A → Result B Fault) → Result B Fault
(Ok x) >>= f = f x
(Err e) >>= f = Err e

-- what a function returned, seen by a view, is what the reading gives
abbrev pub Gives : {X Y : Type 0} → (X → Y) → Result X Fault → Result Y Fault → Type 0
Gives view (Ok x) read = read ≡ Ok (view x)
Gives view (Err e) read = read ≡ Err e

-- whether a byte is one of `0` to `9`
abbrev pub is_digit : ℕ → Bool
is_digit byte = nat_le 48 byte && nat_le byte 57

-- a number goes on with each digit up to its 28th: one below 10^27 has fewer
abbrev pub digits_on : ℕ → List ℕ → ℕ × List ℕ
digits_on n [] = (n, [])
digits_on n (b ∷ bs) = if is_digit b && nat_lt n 1000000000000000000000000000 then digits_on (n * 10 + (b - 48)) bs else (n, b ∷ bs)

-- `0`, or a digit 1 to 9 followed by at most 27 digits
abbrev pub digits_at : List ℕ → Result (ℕ × List ℕ) Fault
digits_at [] = Err (fault.Stop 0)
digits_at (b ∷ bs) = if b == 48 then Ok (0, bs) else (if is_digit b then Ok (digits_on (b - 48) bs) else Err (fault.Stop (length (b ∷ bs))))

-- a byte that has to stand there
abbrev pub byte_at : ℕ → List ℕ → Result (List ℕ) Fault
byte_at byte [] = Err (fault.Stop 0)
byte_at byte (b ∷ bs) = if b == byte then Ok bs else Err (fault.Stop (length (b ∷ bs)))

-- bytes that have to stand there
abbrev pub literal_at : List ℕ → List ℕ → Result (List ℕ) Fault
literal_at [] bytes = Ok bytes
literal_at (c ∷ cs) bytes = byte_at c bytes >>= literal_at cs

-- a number and the byte that ends it
unfoldable pub number_at : ℕ → List ℕ → Result (ℕ × List ℕ) Fault
number_at end bytes = do
  n ← digits_at bytes
  rest ← byte_at end n.1
  Ok (n.0, rest)
