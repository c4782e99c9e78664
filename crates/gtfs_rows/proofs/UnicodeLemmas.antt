-- Bytes that are text.
use Rattle.std.proofs.Common.{◌≡◌, ◌≤◌, ℕ, List, [], ◌∷◌, length, true, Result, Ok, Err, refl, sym, inl, inr, arith}
use Rattle.std.specs.Borrow.{Bor}
use Rattle.std.specs.Prelude.{◌&&◌, ◌==◌, MatchResult, is_ok, IsUtf8}
use Rattle.std.specs.Char.{encode_utf8}
use Rattle.std.specs.Str.{is_utf8}
use Rattle.std.proofs.lemmas.Bool.{and_parts, cases_Bool, false_from_ne_true}
use Rattle.std.proofs.lemmas.Bool.Decides.{nat_tests}
use Rattle.std.proofs.lemmas.Str.{is_utf8-from_IsUtf8, IsUtf8-from_is_utf8, IsUtf8-past_char}
use Rattle.csv.specs.Reading.{is_bom, strip_bom}

-- whether bytes are text
pub text-is : {E : Type 0} (bytes : List ℕ) (r : Result (Bor (List ℕ)) E) → MatchResult r (λ s. IsUtf8 bytes) (λ e. ¬ (IsUtf8 bytes)) → is_ok r ≡ is_utf8 bytes
text-is bytes (Ok s) h = sym (is_utf8-from_IsUtf8 bytes h)
text-is bytes (Err e) h = sym (false_from_ne_true _ (λ t. h (IsUtf8-from_is_utf8 bytes t)))

-- behind a byte order mark
behind-mark : (rest : List ℕ) → IsUtf8 (0xEF ∷ 0xBB ∷ 0xBF ∷ rest) → IsUtf8 rest
unfolding encode_utf8
behind-mark rest u = IsUtf8-past_char (0xEF ∷ 0xBB ∷ 0xBF ∷ rest) rest 0xFEFF u refl

-- a text without its byte order mark is text
pub strip-text : (bytes : List ℕ) → IsUtf8 bytes → IsUtf8 (strip_bom bytes)
unfolding strip_bom
strip-text [] u = u
strip-text (a ∷ []) u = u
strip-text (a ∷ b ∷ []) u = u
strip-text (a ∷ b ∷ c ∷ rest) u = elim (cases_Bool (is_bom a b c)) [
  | inl mark ↦
      let parts = and_parts ((a == 0xEF) && (b == 0xBB)) (c == 0xBF) mark in
      let fronts = and_parts (a == 0xEF) (b == 0xBB) parts.0 in
      let one : (a == 0xEF) ≡ true = fronts.0 in
      let two : (b == 0xBB) ≡ true = fronts.1 in
      let three : (c == 0xBF) ≡ true = parts.1 in
      let first : a ≡ 0xEF = grind (arith, nat_tests) in
      let second : b ≡ 0xBB = grind (arith, nat_tests) in
      let third : c ≡ 0xBF = grind (arith, nat_tests) in
      rw mark (behind-mark rest (rw (first, second, third) at u))
  | inr none ↦ rw none u
]

pub strip-length : (bytes : List ℕ) → length (strip_bom bytes) ≤ length bytes
unfolding strip_bom
strip-length [] = omega arith
strip-length (a ∷ []) = omega arith
strip-length (a ∷ b ∷ []) = omega arith
strip-length (a ∷ b ∷ c ∷ rest) = elim (cases_Bool (is_bom a b c)) [ inl mark ↦ rw mark (omega arith) | inr none ↦ rw none (omega arith) ]
