-- The first fault of texts, from what they write.
use Rattle.std.proofs.Common.{◌≡◌, ℕ, ℤ, List, [], Some, None, refl, true, inl, inr, ◌∙◌}
use Rattle.std.specs.Prelude.{Option, slice_get}
use Rattle.std.proofs.lemmas.Bool.{cases_Bool}
use Rattle.gtfs_rows.specs.Fields.{clock_of, date_of}
use Rattle.service_period.specs.declared.bad_period.BadPeriod.TheVariants as bad
use Rattle.service_period.specs.Periods.{is_window, period_faults, window_of}

pub no-window : (date from to : List ℕ) (day : ℤ × ℕ × ℕ) → Some day ≡ date_of date → None ≡ window_of (clock_of from) (clock_of to)
    → slice_get (period_faults date from to) 0 ≡ Some bad.Window
no-window date from to day dated none = rw (← dated, ← none) refl

pub no-faults : (date from to : List ℕ) (day : ℤ × ℕ × ℕ) (ends : ℕ × ℕ) → Some day ≡ date_of date
    → Some ends ≡ window_of (clock_of from) (clock_of to) → period_faults date from to ≡ []
no-faults date from to day ends dated made = rw (← dated, ← made) refl

-- times that make a window are its ends
window-is : (first last : ℕ) (ends : ℕ × ℕ) → Some ends ≡ window_of (Some first) (Some last) → is_window ends.0 ends.1 ≡ true
window-is first last ends is = elim (cases_Bool (is_window first last)) [
  | inl made ↦
      let found : Some ends ≡ Some (first, last) = is ∙ rw made refl in
      let same : ends ≡ (first, last) = cc in
      rw same made
  | inr failed ↦ let none : Some ends ≡ None = is ∙ rw failed refl in absurd (cc none)
]

pub window-ends : (first last : Option ℕ) (ends : ℕ × ℕ) → Some ends ≡ window_of first last → is_window ends.0 ends.1 ≡ true
window-ends None last ends is = absurd (cc is)
window-ends (Some first) None ends is = absurd (cc is)
window-ends (Some first) (Some last) ends is = window-is first last ends is
