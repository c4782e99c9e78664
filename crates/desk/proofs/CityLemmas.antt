-- The job of a generated city.
use Rattle.std.proofs.Common.{◌≡◌, ℕ, List, Option, None, Some, refl, ap, ◌∙◌}
use Rattle.std.specs.Prelude.{codes, slice_get}
use Rattle.service_period.specs.Periods.{IsPeriodOf, PeriodData, period_faults}
use Rattle.service_period.specs.declared.bad_period.BadPeriod.{BadPeriod}
use Rattle.assign.specs.declared.print.Print.TheVariants as print
use Rattle.desk.specs.declared.gen_words.GenWords.{GenWords}
use Rattle.desk.specs.declared.inputs.Inputs.{Inputs}
use Rattle.desk.specs.Assigned.{job_with}
use Rattle.desk.specs.Generated.{CityFiles, generated}
use Rattle.desk.specs.GeneratedJobs.{generated_job, generated_period, inputs_of_city}
use Rattle.desk.proofs.OneAssignment.{one_period}

-- its texts write its period
pub city_period : (period : PeriodData) → IsPeriodOf (codes "20250602") (codes "07:00:00") (codes "09:00:00") period → period ≡ generated_period
city_period period h = one_period (codes "20250602") (codes "07:00:00") (codes "09:00:00") period generated_period h (record { day = refl; window = refl })

-- and have no fault
pub city_period_fine : (bad : BadPeriod) → slice_get (period_faults (codes "20250602") (codes "07:00:00") (codes "09:00:00")) 0 ≡ Some bad → ⊥
city_period_fine bad first = (let none : slice_get (period_faults (codes "20250602") (codes "07:00:00") (codes "09:00:00")) 0 ≡ None = refl in cc (none, first))

-- the job of its files
pub city_job : (words : GenWords) (inputs : Inputs) (files : CityFiles) → inputs ≡ inputs_of_city files → files ≡ generated words →
    job_with inputs generated_period print.Summary None ≡ generated_job words
city_job words inputs files of made = ap (λ (some : Inputs). job_with some generated_period print.Summary None) (of ∙ ap inputs_of_city made)
