-- A date of the numbers that its digits write.
use Rattle.std.proofs.Common.{◌≡◌, ℕ, ℤ, ◌-◌, List, Some, length, take, drop, refl, ◌∙◌, arith, eq-eqb}
use Rattle.std.specs.Prelude.{Option}
use Rattle.std.proofs.lemmas.List.{length-drop, take_all}
use Rattle.gtfs_rows.specs.Fields.{civil_at, date_of, number_in}

pub date-is : (field : List ℕ) (y m d : ℕ) (r : Option (ℤ × ℕ × ℕ)) → length field ≡ 8 → Some y ≡ number_in 4 (take 4 field) → Some m ≡ number_in 2 (take 2 (drop 4 field))
    → Some d ≡ number_in 2 (take (length field - 6) (drop 6 field)) → r ≡ civil_at y m d → r ≡ date_of field
date-is field y m d r size year month day is =
    let long = eq-eqb (length field) 8 size in
    let rest : take (length field - 6) (drop 6 field) ≡ drop 6 field = take_all _ _ (omega (arith, length-drop 6 field)) in
    let last : Some d ≡ number_in 2 (drop 6 field) = rw rest at day in
    is ∙ rw (long, ← year, ← month, ← last) refl
