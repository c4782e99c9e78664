-- Parts appended one after the other.
use Rattle.std.proofs.Common.{◌≡◌, ℕ, List, [], ◌++◌, refl, ap, ◌∙◌, append_assoc}

-- three parts
pub three_parts : (t0 a b c : List ℕ) {t1 t2 t3 : List ℕ} → t1 ≡ t0 ++ a → t2 ≡ t1 ++ b → t3 ≡ t2 ++ c → t3 ≡ t0 ++ ((a ++ b) ++ c)
three_parts t0 a b c one two three = three ∙ ap (λ t. t ++ c) two ∙ ap (λ t. (t ++ b) ++ c) one ∙ regroup t0 a b c
  where
    regroup : (t a b c : List ℕ) → ((t ++ a) ++ b) ++ c ≡ t ++ ((a ++ b) ++ c)
    regroup t a b c = simp append_assoc refl

-- four parts
pub four_parts : (t0 a b c d : List ℕ) {t1 t2 t3 t4 : List ℕ} → t1 ≡ t0 ++ a → t2 ≡ t1 ++ b → t3 ≡ t2 ++ c → t4 ≡ t3 ++ d → t4 ≡ t0 ++ (((a ++ b) ++ c) ++ d)
four_parts t0 a b c d one two three four = four ∙ ap (λ t. t ++ d) (three_parts t0 a b c one two three) ∙ regroup t0 a b c d
  where
    regroup : (t a b c d : List ℕ) → (t ++ ((a ++ b) ++ c)) ++ d ≡ t ++ (((a ++ b) ++ c) ++ d)
    regroup t a b c d = simp append_assoc refl

-- six parts, from nothing on
pub six_parts : (a b c d e f : List ℕ) {t0 t1 t2 t3 t4 t5 t6 : List ℕ} → t0 ≡ [] → t1 ≡ t0 ++ a → t2 ≡ t1 ++ b → t3 ≡ t2 ++ c → t4 ≡ t3 ++ d →
    t5 ≡ t4 ++ e → t6 ≡ t5 ++ f → t6 ≡ ((((a ++ b) ++ c) ++ d) ++ e) ++ f
six_parts a b c d e f none one two three four five six =
    six
    ∙ ap (λ t. t ++ f) five
    ∙ ap (λ t. (t ++ e) ++ f) four
    ∙ ap (λ t. ((t ++ d) ++ e) ++ f) three
    ∙ ap (λ t. (((t ++ c) ++ d) ++ e) ++ f) two
    ∙ ap (λ t. ((((t ++ b) ++ c) ++ d) ++ e) ++ f) one
    ∙ ap (λ t. (((((t ++ a) ++ b) ++ c) ++ d) ++ e) ++ f) none
