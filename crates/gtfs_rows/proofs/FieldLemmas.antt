-- The fields of a record, trimmed.
use Rattle.std.proofs.Common.{◌≡◌, ℕ, zero, suc, ◌<◌, ◌≤◌, List, [], ◌∷◌, Some, None, length, get_or, map, refl, sym, arith}
use Rattle.std.proofs.lemmas.List.{get_or-map, get_or_past, length-map}
use Rattle.csv.specs.Records.{field_at}
use Rattle.gtfs_rows.specs.Records.{trimmed}

pub field-is : (fs : List (List ℕ)) (i : ℕ) (f : List ℕ) → Some f ≡ field_at fs i → (i < length fs) × (f ≡ get_or fs i [])
unfolding field_at
field-is [] i f h = cc h
field-is (x ∷ fs) zero f h = (omega arith, cc)
field-is (x ∷ fs) (suc i) f h = let later = field-is fs i f h in (omega arith, later.1)

pub field-past : (fs : List (List ℕ)) (i : ℕ) → None ≡ field_at fs i → length fs ≤ i
unfolding field_at
field-past [] i h = omega arith
field-past (x ∷ fs) zero h = cc h
field-past (x ∷ fs) (suc i) h = let later = field-past fs i h in omega arith

-- the field at a place of a trimmed record
pub picked-some : (fs : List (List ℕ)) (i : ℕ) (f : List ℕ) → Some f ≡ field_at fs i → trimmed f ≡ get_or (map trimmed fs) i []
picked-some fs i f h = let at = field-is fs i f h in let lt = at.0 in rw (get_or-map trimmed fs i [] [] lt, ← at.1) refl

pub picked-none : (fs : List (List ℕ)) (i : ℕ) → None ≡ field_at fs i → [] ≡ get_or (map trimmed fs) i []
picked-none fs i h = let past = field-past fs i h in sym (get_or_past (map trimmed fs) i [] (omega (arith, length-map fs trimmed)))
