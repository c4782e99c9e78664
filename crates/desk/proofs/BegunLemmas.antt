-- What begins the print of a job is all of it, where it is no table of skims.
use Rattle.std.proofs.Common.{◌≡◌, ℕ, List, Option, refl, sym, ◌∙◌}
use Rattle.std.specs.Prelude.{◌≢◌}
use Rattle.assign.specs.declared.print.Print.{Print}
use Rattle.assign.specs.declared.print.Print.TheVariants as print
use Rattle.assign.specs.Jobs.{JobData, data_in, zone_in}
use Rattle.assign.specs.Prints.{PrintData}
use Rattle.assign.specs.Printed.{BeginsPrintFrom, BeginsPrintOf, IsPrintFrom, IsPrintOf}
use Rattle.desk.specs.declared.command.AssignWords.{AssignWords}
use Rattle.desk.specs.Assigned.{BeginsAssigned, IsJobOf}
use Rattle.desk.specs.Read.{Files}

-- all that is printed begins other prints than skims
whole_from : (source : PrintData) (asked : Option ℕ) (printed : Print) (bytes : List ℕ) → printed ≢ print.Skims → BeginsPrintFrom source asked printed bytes → IsPrintFrom source asked printed bytes
whole_from source asked print.Summary bytes other h =
    record { totals = h.is_print.totals; all_reach = h.is_print.all_reach; assigned = h.is_print.assigned; is_print = h.is_print.is_print }
whole_from source asked print.Lines bytes other h =
    record { totals = h.is_print.totals; all_reach = h.is_print.all_reach; assigned = h.is_print.assigned; is_print = h.is_print.is_print }
whole_from source asked print.Stops bytes other h =
    record { totals = h.is_print.totals; all_reach = h.is_print.all_reach; assigned = h.is_print.assigned; is_print = h.is_print.is_print }
whole_from source asked print.Segments bytes other h =
    record { totals = h.is_print.totals; all_reach = h.is_print.all_reach; assigned = h.is_print.assigned; is_print = h.is_print.is_print }
whole_from source asked print.Skims bytes other h = absurd (other refl)
whole_from source asked print.Certificate bytes other h =
    record { totals = h.is_print.totals; all_reach = h.is_print.all_reach; assigned = h.is_print.assigned; is_print = h.is_print.is_print }
whole_from source asked print.All bytes other h =
    record { totals = h.is_print.totals; all_reach = h.is_print.all_reach; assigned = h.is_print.assigned; is_print = h.is_print.is_print }

pub whole_print : (job : JobData) (bytes : List ℕ) → job.print ≢ print.Skims → BeginsPrintOf job bytes → IsPrintOf job bytes
whole_print job bytes other h = record {
  feed = h.feed;
  has_city = h.has_city;
  is_print = whole_from (data_in job h.feed) (zone_in job h.feed) job.print bytes other h.begins;
}

-- what begins the print of a job begins that of the words
pub begins_assigned : (files : Files) (words : AssignWords) (job : JobData) (bytes : List ℕ) → IsJobOf files words job → BeginsPrintOf job bytes → BeginsAssigned files words bytes
begins_assigned files words job bytes is h = record {
  job = job;
  is_job = is;
  begins = h;
  whole = λ other. whole_print job bytes (λ e. other (sym is.is_print ∙ e)) h;
}
