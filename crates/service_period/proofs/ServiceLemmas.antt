-- The last exception, as a loop finds it.
use Rattle.std.proofs.Common.{◌≡◌, ℕ, ℤ, Bool, List, [], ◌∷◌, Some, refl, inl, inr}
use Rattle.std.specs.Prelude.{Option, filter, option_map, if◌then◌else◌}
use Rattle.std.specs.List.{last_or}
use Rattle.std.proofs.lemmas.Bool.{cases_Bool}
use Rattle.gtfs_rows.specs.declared.timetable.Exception.{Exception}
use Rattle.service_period.specs.Services.{is_exception_of}

-- what exceptions say after what was said before
abbrev pub said_after : ℕ → ℤ × ℕ × ℕ → Option Bool → List Exception → Option Bool
said_after service date before [] = before
said_after service date before (exception ∷ rest) =
    said_after service date (if is_exception_of service date exception then Some exception.adds else before) rest

pub said-last : (service : ℕ) (date : ℤ × ℕ × ℕ) (before : Option Exception) (exceptions : List Exception)
    → said_after service date (option_map (λ exception. exception.adds) before) exceptions
    ≡ option_map (λ exception. exception.adds) (last_or before (filter (is_exception_of service date) exceptions))
said-last service date before [] = refl
said-last service date before (exception ∷ rest) = elim (cases_Bool (is_exception_of service date exception)) [
  | inl here ↦ rw here (said-last service date (Some exception) rest)
  | inr other ↦ rw other (said-last service date before rest)
]
