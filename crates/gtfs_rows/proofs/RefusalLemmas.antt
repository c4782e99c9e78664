-- The first of all faults of a sheet, fault by fault.
use Rattle.std.proofs.Common.{◌≡◌, ◌≢◌, ◌<◌, ◌+◌, ◌⊎◌, inl, inr, ℕ, zero, suc, true, false, List, [], ◌∷◌, ◌++◌, Some, length, refl, sym, ap, ◌∙◌, append_assoc, arith, eq-eqb, subst}
use Rattle.std.specs.Prelude.{◌==◌, ◌&&◌, IsUtf8, flat_map, nat_lt, slice_get, slice_index_or}
use Rattle.std.specs.Str.{is_utf8}
use Rattle.std.proofs.lemmas.Bool.{and_parts, cases_Bool}
use Rattle.std.proofs.lemmas.Bool.Decides.{nat_tests}
use Rattle.std.proofs.lemmas.Str.{is_utf8-from_IsUtf8, IsUtf8-from_is_utf8}
use Rattle.gtfs_rows.specs.declared.row_fault.RowFault.{RowFault}
use Rattle.gtfs_rows.specs.declared.row_fault.RowFault.TheVariants as fault
use Rattle.gtfs_rows.specs.declared.wanted.Column.{Column}
use Rattle.gtfs_rows.specs.Faults.{column_faults, column_place, file_place, record_faults, row_place, sheet_faults, times, width_faults}
use Rattle.gtfs_rows.specs.Records.{header_of, records_of, unmarked}
use Rattle.gtfs_rows.specs.Refusals.{AreFine, IsFine}

-- a column has a fault, which comes first, or none
abbrev pub IsFaultOf : List ℕ → List (List ℕ) → Column → RowFault → Type 0
IsFaultOf file header column e = ((1 < times column.name header) × (e ≡ fault.DoubleColumn (column_place file column.name)))
    ⊎ ((column.required ≡ true) × (times column.name header ≡ 0) × (e ≡ fault.MissingColumn (column_place file column.name)))

fine : (header : List (List ℕ)) (column : Column) → nat_lt 1 (times column.name header) ≡ false → (column.required && (times column.name header == 0)) ≡ false → IsFine header column
fine header column few there = record { once = grind (arith, nat_tests); there = λ required none. let test : (column.required && (times column.name header == 0)) ≡ true = rw (required, none) refl in let bad : true ≡ false = sym test ∙ there in absurd (cc bad) }

some-same : (x y : RowFault) → Some x ≡ Some y → y ≡ x
some-same x y h = cc h

-- of faults with those of a column in front, the first is of the column, or the column is fine
column-first : (file : List ℕ) (header : List (List ℕ)) (column : Column) (rest : List RowFault) (e : RowFault) → slice_get (column_faults file header column ++ rest) 0 ≡ Some e
    → IsFaultOf file header column e ⊎ (IsFine header column × (slice_get rest 0 ≡ Some e))
column-first file header column rest e first = elim (cases_Bool (nat_lt 1 (times column.name header))) [
  | inl double ↦ let many : 1 < times column.name header = grind (arith, nat_tests) in inl (inl (many, some-same _ _ (rw double at first)))
  | inr single ↦ elim (cases_Bool (column.required && (times column.name header == 0))) [
    | inl missing ↦
        let parts = and_parts column.required (times column.name header == 0) missing in
        let none : (times column.name header == 0) ≡ true = parts.1 in
        inl (inr (parts.0, grind (arith, nat_tests), some-same _ _ (rw (single, missing) at first)))
    | inr there ↦ inr (fine header column single there, rw (single, there) at first)
  ]
]

-- a fine column in front
fine-more : (header : List (List ℕ)) (first : Column) (rest : List Column) (n : ℕ) → IsFine header first → AreFine header rest n → AreFine header (first ∷ rest) (suc n)
fine-more header first rest n here later zero column lt found = let same : first ≡ column = cc found in subst (λ (c : Column). IsFine header c) same here
fine-more header first rest n here later (suc k) column lt found = later k column (omega arith) found

-- a fault of a wanted column, where those before it are fine
pub record HasColumnFault (file : List ℕ) (header : List (List ℕ)) (wanted : List Column) (e : RowFault) : Type 0 where
  pub number : ℕ
  pub column : Column
  pub found : slice_get wanted number ≡ Some column
  pub before : AreFine header wanted number
  pub fault : IsFaultOf file header column e

-- of faults with those of the columns in front, the first is of a column, or all are fine
columns-first : (file : List ℕ) (header : List (List ℕ)) (wanted : List Column) (rest : List RowFault) (e : RowFault) → slice_get (flat_map (column_faults file header) wanted ++ rest) 0 ≡ Some e
    → HasColumnFault file header wanted e ⊎ (AreFine header wanted (length wanted) × (slice_get rest 0 ≡ Some e))
columns-first file header [] rest e first = inr ((λ k column lt found. absurd (omega arith)), first)
columns-first file header (c ∷ cs) rest e first = elim (column-first file header c (flat_map (column_faults file header) cs ++ rest) e (rw append_assoc at first)) [
  | inl here ↦ inl (record { number = 0; column = c; found = refl; before = λ k column lt found. absurd (omega arith); fault = here })
  | inr on ↦ elim (columns-first file header cs rest e on.1) [
    | inl later ↦ inl (record { number = suc later.number; column = later.column; found = later.found; before = fine-more header c cs later.number on.0 later.before; fault = later.fault })
    | inr done ↦ inr (fine-more header c cs (length cs) on.0 done.0, done.1)
  ]
]

-- a record of another width, where those before it have that width; rows are counted from the first of them
pub record HasRowFault (file : List ℕ) (width row : ℕ) (rest : List (List (List ℕ))) (e : RowFault) : Type 0 where
  pub number : ℕ
  pub there : number < length rest
  pub uneven : length (slice_index_or rest number []) ≢ width
  pub before : (k : ℕ) → k < number → length (slice_index_or rest k []) ≡ width
  pub fault : e ≡ fault.RowWidth (row_place file (row + number))

before-more : (width n : ℕ) (first : List (List ℕ)) (rest : List (List (List ℕ))) → length first ≡ width → ((k : ℕ) → k < n → length (slice_index_or rest k []) ≡ width)
    → (k : ℕ) → k < suc n → length (slice_index_or (first ∷ rest) k []) ≡ width
before-more width n first rest here later zero lt = here
before-more width n first rest here later (suc k) lt = later k (omega arith)

rows-first : (file : List ℕ) (width row : ℕ) (rest : List (List (List ℕ))) (e : RowFault) → slice_get (width_faults file width row rest) 0 ≡ Some e → HasRowFault file width row rest e
rows-first file width row [] e first = absurd (cc first)
rows-first file width row (r ∷ rs) e first = elim (cases_Bool (length r == width)) [
  | inl even ↦
      let later = rows-first file width (row + 1) rs e (rw even at first) in
      let here : length r ≡ width = grind (arith, nat_tests) in
      let at : row + 1 + later.number ≡ row + suc later.number = omega arith in
      record {
        number = suc later.number;
        there = let there = later.there in omega arith;
        uneven = later.uneven;
        before = before-more width later.number r rs here later.before;
        fault = later.fault ∙ ap (λ (n : ℕ). fault.RowWidth (row_place file n)) at;
      }
  | inr other ↦
      let at : row ≡ row + 0 = omega arith in
      record {
        number = 0;
        there = omega arith;
        uneven = λ same. let test = eq-eqb (length r) width same in let bad : true ≡ false = sym test ∙ other in absurd (cc bad);
        before = λ k lt. absurd (omega arith);
        fault = some-same _ _ (rw other at first) ∙ ap (λ (n : ℕ). fault.RowWidth (row_place file n)) at;
      }
]

-- the four kinds of a first fault, each with what it says
abbrev pub IsKind : List ℕ → List ℕ → List Column → RowFault → Type 0
IsKind file bytes wanted e =
    ((¬ (IsUtf8 (unmarked bytes))) × (e ≡ fault.NotUtf8 (file_place file)))
    ⊎ ((IsUtf8 (unmarked bytes) × (records_of bytes ≡ []) × (e ≡ fault.NoHeader (file_place file)))
    ⊎ ((IsUtf8 (unmarked bytes) × (records_of bytes ≢ []) × HasColumnFault file (header_of (records_of bytes)) wanted e)
    ⊎ (IsUtf8 (unmarked bytes) × AreFine (header_of (records_of bytes)) wanted (length wanted) × HasRowFault file (length (header_of (records_of bytes))) 1 (records_of bytes) e)))

records-first : (file : List ℕ) (wanted : List Column) (all : List (List (List ℕ))) (e : RowFault) → slice_get (record_faults file wanted all) 0 ≡ Some e
    → ((all ≡ []) × (e ≡ fault.NoHeader (file_place file)))
    ⊎ (((all ≢ []) × HasColumnFault file (header_of all) wanted e) ⊎ (AreFine (header_of all) wanted (length wanted) × HasRowFault file (length (header_of all)) 1 all e))
records-first file wanted [] e first = inl (refl, some-same _ _ first)
records-first file wanted (h ∷ rest) e first = inr (elim (columns-first file h wanted (width_faults file (length h) 1 (h ∷ rest)) e first) [
  | inl column ↦ inl ((λ none. absurd (cc none)), column)
  | inr on ↦ inr (on.0, rows-first file (length h) 1 (h ∷ rest) e on.1)
])

pub kind-of : (file bytes : List ℕ) (wanted : List Column) (e : RowFault) → slice_get (sheet_faults file bytes wanted) 0 ≡ Some e → IsKind file bytes wanted e
kind-of file bytes wanted e first = elim (cases_Bool (is_utf8 (unmarked bytes))) [
  | inl good ↦
      let text = IsUtf8-from_is_utf8 (unmarked bytes) good in
      elim (records-first file wanted (records_of bytes) e (rw good at first)) [
        | inl none ↦ inr (inl (text, none.0, none.1))
        | inr rest ↦ elim rest [
          | inl column ↦ inr (inr (inl (text, column.0, column.1)))
          | inr row ↦ inr (inr (inr (text, row.0, row.1)))
        ]
      ]
  | inr bad ↦ inl ((λ text. let is = is_utf8-from_IsUtf8 (unmarked bytes) text in let clash : true ≡ false = sym is ∙ bad in absurd (cc clash)), some-same _ _ (rw bad at first))
]
