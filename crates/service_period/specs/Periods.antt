-- Periods: a date and a window of its service day. Here: docs/FORMATS.md.
use Rattle.std.specs.Prelude.{◌≡◌, ◌&&◌, ◌++◌, ◌+◌, ℕ, ℤ, Bool, List, [], ◌∷◌, Option, Some, None, is_none, nat_le, nat_lt, if◌then◌else◌}
use Rattle.gtfs_rows.specs.Fields.{clock_of, date_of}
use Rattle.service_period.specs.declared.bad_period.BadPeriod.{BadPeriod}
use Rattle.service_period.specs.declared.bad_period.BadPeriod.TheVariants as bad

-- a date as its year, month and day, the first second of the window and the first one after it
pub record PeriodData : Type 0 where
  pub date : ℤ × ℕ × ℕ
  pub from : ℕ
  pub to : ℕ

-- the seconds of the longest window: two days
abbrev pub longest_window : ℕ
longest_window = 172800

-- whether a window leads forward and is not longer than the longest
abbrev pub is_window : ℕ → ℕ → Bool
is_window from to = nat_lt from to && nat_le to (from + longest_window)

-- the ends of the window that two times make, where both are there and make one
abbrev pub window_of : Option ℕ → Option ℕ → Option (ℕ × ℕ)
window_of (Some from) (Some to) = if is_window from to then Some (from, to) else None
window_of (Some from) None = None
window_of None _ = None

-- the fault, where the test holds
abbrev pub fault_if : Bool → BadPeriod → List BadPeriod
fault_if test fault = if test then fault ∷ [] else []

-- the faults of the texts of a date and two times, in the order in which the first is answered
abbrev pub period_faults : List ℕ → List ℕ → List ℕ → List BadPeriod
period_faults date from to =
    fault_if (is_none (date_of date)) bad.Date
    ++ fault_if (is_none (window_of (clock_of from) (clock_of to))) bad.Window

-- the texts write the date of the period and the ends of its window
pub record IsPeriodOf (date from to : List ℕ) (period : PeriodData) : Type 0 where
  pub day : date_of date ≡ Some period.date
  pub window : window_of (clock_of from) (clock_of to) ≡ Some (period.from, period.to)
