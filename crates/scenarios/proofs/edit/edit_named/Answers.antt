use Rattle.std.proofs.Common.{◌≡◌, ◌<◌, ℕ, zero, suc, List, length, get_or, refl, rules, arith}
use Rattle.std.specs.Prelude.{codes}
use Rattle.std.proofs.lemmas.Grind.{same_number_lists}
use Rattle.scenarios.proofs.edit.edit_named.Goals as goal

-- eight bytes one by one
each-byte : (xs : List ℕ) → get_or xs 0 0 ≡ 116 → get_or xs 1 0 ≡ 114 → get_or xs 2 0 ≡ 97 → get_or xs 3 0 ≡ 110 → get_or xs 4 0 ≡ 115 → get_or xs 5 0 ≡ 102 → get_or xs 6 0 ≡ 101 → get_or xs 7 0 ≡ 114
    → (k : ℕ) → k < 8 → get_or xs k 0 ≡ get_or (codes "transfer") k 0
each-byte xs a b c d e f g h zero lt = a
each-byte xs a b c d e f g h (suc zero) lt = b
each-byte xs a b c d e f g h (suc (suc zero)) lt = c
each-byte xs a b c d e f g h (suc (suc (suc zero))) lt = d
each-byte xs a b c d e f g h (suc (suc (suc (suc zero)))) lt = e
each-byte xs a b c d e f g h (suc (suc (suc (suc (suc zero))))) lt = f
each-byte xs a b c d e f g h (suc (suc (suc (suc (suc (suc zero)))))) lt = g
each-byte xs a b c d e f g h (suc (suc (suc (suc (suc (suc (suc zero))))))) lt = h
each-byte xs a b c d e f g h (suc (suc (suc (suc (suc (suc (suc (suc k)))))))) lt = absurd (omega arith)

pub returns-in-transfer : goal.returns-in-transfer
returns-in-transfer c =
    let xs = c.args.name.now in
    let size : length xs ≡ 8 = omega arith in
    let at : (k : ℕ) → k < 8 → get_or xs k 0 ≡ get_or (codes "transfer") k 0 = each-byte xs (search rules) (search rules) (search rules) (search rules) (search rules) (search rules) (search rules) (search rules) in
    let same : xs ≡ codes "transfer" = same_number_lists xs (codes "transfer") size (λ k lt. at k (omega arith)) in
    record { value = rw same refl }
