-- What the first fault of a sheet says, for each kind of fault.
use Rattle.std.proofs.Common.{◌≡◌, ◌+◌, inl, inr, ℕ, List, ap, ◌∙◌, arith}
use Rattle.gtfs_rows.specs.declared.place.Place.{Place}
use Rattle.gtfs_rows.specs.declared.row_fault.RowFault.TheVariants as fault
use Rattle.gtfs_rows.specs.declared.wanted.Column.{Column}
use Rattle.gtfs_rows.specs.Faults.{IsFirstFault, row_place, sheet_faults}
use Rattle.gtfs_rows.specs.Refusals.{HasDoubleColumn, HasMissingColumn, HasNoRecord, HasUnevenRow, IsNotText}
use Rattle.gtfs_rows.proofs.RefusalLemmas.{IsKind, kind-of}

of-not-text : (file bytes : List ℕ) (wanted : List Column) (p : Place) → IsKind file bytes wanted (fault.NotUtf8 p) → IsNotText file bytes p
of-not-text file bytes wanted p (inl h) = record { no_text = h.0; at = cc h.1 }
of-not-text file bytes wanted p (inr (inl h)) = absurd (cc h.2)
of-not-text file bytes wanted p (inr (inr (inl h))) = elim h.2.fault [ inl f ↦ absurd (cc f.1) | inr f ↦ absurd (cc f.2) ]
of-not-text file bytes wanted p (inr (inr (inr h))) = absurd (cc h.2.fault)

pub not-text : (file bytes : List ℕ) (wanted : List Column) (p : Place) → IsFirstFault (sheet_faults file bytes wanted) (fault.NotUtf8 p) → IsNotText file bytes p
not-text file bytes wanted p (inl h) = absurd (cc h)
not-text file bytes wanted p (inr first) = of-not-text file bytes wanted p (kind-of file bytes wanted (fault.NotUtf8 p) first)

of-no-record : (file bytes : List ℕ) (wanted : List Column) (p : Place) → IsKind file bytes wanted (fault.NoHeader p) → HasNoRecord file bytes p
of-no-record file bytes wanted p (inl h) = absurd (cc h.1)
of-no-record file bytes wanted p (inr (inl h)) = record { text = h.0; none = h.1; at = cc h.2 }
of-no-record file bytes wanted p (inr (inr (inl h))) = elim h.2.fault [ inl f ↦ absurd (cc f.1) | inr f ↦ absurd (cc f.2) ]
of-no-record file bytes wanted p (inr (inr (inr h))) = absurd (cc h.2.fault)

pub no-record : (file bytes : List ℕ) (wanted : List Column) (p : Place) → IsFirstFault (sheet_faults file bytes wanted) (fault.NoHeader p) → HasNoRecord file bytes p
no-record file bytes wanted p (inl h) = absurd (cc h)
no-record file bytes wanted p (inr first) = of-no-record file bytes wanted p (kind-of file bytes wanted (fault.NoHeader p) first)

of-double-column : (file bytes : List ℕ) (wanted : List Column) (p : Place) → IsKind file bytes wanted (fault.DoubleColumn p) → HasDoubleColumn file bytes wanted p
of-double-column file bytes wanted p (inl h) = absurd (cc h.1)
of-double-column file bytes wanted p (inr (inl h)) = absurd (cc h.2)
of-double-column file bytes wanted p (inr (inr (inl h))) = elim h.2.fault [
  | inl f ↦ record { text = h.0; some = h.1; number = h.2.number; column = h.2.column; found = h.2.found; twice = f.0; before = h.2.before; at = cc f.1 }
  | inr f ↦ absurd (cc f.2)
]
of-double-column file bytes wanted p (inr (inr (inr h))) = absurd (cc h.2.fault)

pub double-column : (file bytes : List ℕ) (wanted : List Column) (p : Place) → IsFirstFault (sheet_faults file bytes wanted) (fault.DoubleColumn p) → HasDoubleColumn file bytes wanted p
double-column file bytes wanted p (inl h) = absurd (cc h)
double-column file bytes wanted p (inr first) = of-double-column file bytes wanted p (kind-of file bytes wanted (fault.DoubleColumn p) first)

of-missing-column : (file bytes : List ℕ) (wanted : List Column) (p : Place) → IsKind file bytes wanted (fault.MissingColumn p) → HasMissingColumn file bytes wanted p
of-missing-column file bytes wanted p (inl h) = absurd (cc h.1)
of-missing-column file bytes wanted p (inr (inl h)) = absurd (cc h.2)
of-missing-column file bytes wanted p (inr (inr (inl h))) = elim h.2.fault [
  | inl f ↦ absurd (cc f.1)
  | inr f ↦ record { text = h.0; some = h.1; number = h.2.number; column = h.2.column; found = h.2.found; required = f.0; absent = f.1; before = h.2.before; at = cc f.2 }
]
of-missing-column file bytes wanted p (inr (inr (inr h))) = absurd (cc h.2.fault)

pub missing-column : (file bytes : List ℕ) (wanted : List Column) (p : Place) → IsFirstFault (sheet_faults file bytes wanted) (fault.MissingColumn p) → HasMissingColumn file bytes wanted p
missing-column file bytes wanted p (inl h) = absurd (cc h)
missing-column file bytes wanted p (inr first) = of-missing-column file bytes wanted p (kind-of file bytes wanted (fault.MissingColumn p) first)

of-uneven-row : (file bytes : List ℕ) (wanted : List Column) (p : Place) → IsKind file bytes wanted (fault.RowWidth p) → HasUnevenRow file bytes wanted p
of-uneven-row file bytes wanted p (inl h) = absurd (cc h.1)
of-uneven-row file bytes wanted p (inr (inl h)) = absurd (cc h.2)
of-uneven-row file bytes wanted p (inr (inr (inl h))) = elim h.2.fault [ inl f ↦ absurd (cc f.1) | inr f ↦ absurd (cc f.2) ]
of-uneven-row file bytes wanted p (inr (inr (inr h))) =
    let at : p ≡ row_place file (1 + h.2.number) = cc h.2.fault in
    let same : 1 + h.2.number ≡ h.2.number + 1 = omega arith in
    record { text = h.0; number = h.2.number; there = h.2.there; uneven = h.2.uneven; before = h.2.before; columns = h.1; at = at ∙ ap (λ (n : ℕ). row_place file n) same }

pub uneven-row : (file bytes : List ℕ) (wanted : List Column) (p : Place) → IsFirstFault (sheet_faults file bytes wanted) (fault.RowWidth p) → HasUnevenRow file bytes wanted p
uneven-row file bytes wanted p (inl h) = absurd (cc h)
uneven-row file bytes wanted p (inr first) = of-uneven-row file bytes wanted p (kind-of file bytes wanted (fault.RowWidth p) first)

of-bad-field : (file bytes : List ℕ) (wanted : List Column) (p : Place) → IsKind file bytes wanted (fault.BadField p) → ⊥
of-bad-field file bytes wanted p (inl h) = absurd (cc h.1)
of-bad-field file bytes wanted p (inr (inl h)) = absurd (cc h.2)
of-bad-field file bytes wanted p (inr (inr (inl h))) = elim h.2.fault [ inl f ↦ absurd (cc f.1) | inr f ↦ absurd (cc f.2) ]
of-bad-field file bytes wanted p (inr (inr (inr h))) = absurd (cc h.2.fault)

pub bad-field : (file bytes : List ℕ) (wanted : List Column) (p : Place) → IsFirstFault (sheet_faults file bytes wanted) (fault.BadField p) → ⊥
bad-field file bytes wanted p (inl h) = absurd (cc h)
bad-field file bytes wanted p (inr first) = of-bad-field file bytes wanted p (kind-of file bytes wanted (fault.BadField p) first)
