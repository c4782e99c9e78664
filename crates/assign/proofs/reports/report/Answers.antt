use Rattle.std.proofs.Common.{◌≡◌, ◌≢◌, ◌⊎◌, ℕ, List, [], Some, subst, sym}
use Rattle.std.proofs.lemmas.Result.{IfErr-weaker, IfOk-weaker, err_from_is_err_and}
use Rattle.assign.specs.JobFaults.{HasCause}
use Rattle.assign.specs.JobSteps.{IsRefusedEarly, IsUnassigned, data_of}
use Rattle.assign.specs.JobViews.{job_of}
use Rattle.assign.specs.Jobs.{printing_all}
use Rattle.assign.specs.Printed.{IsPrintOf, PrintsTotals}
use Rattle.assign.specs.Prints.{all_text}
use Rattle.assign.specs.Reports.{too_long}
use Rattle.assign.specs.declared.job_fault.JobFault.TheVariants as fault
use Rattle.assign.proofs.JobFaultLemmas.{early_cause, early_short, early_unsent}
use Rattle.assign.proofs.JobLemmas.{report_cause, report_of_job, report_totals, unassigned_cause}
use Rattle.assign.proofs.reports.report.Goals as goal

pub returns-in_err-prepared-clause-too_long : goal.returns-in_err-prepared-clause-too_long
returns-in_err-prepared-clause-too_long c = λ is.
    let p = err_from_is_err_and c.from_residual.result c.from_residual.ensures.1 in
    let found : c.in_err-prepared.field-0.0 ≡ too_long = cc (p.1, p.2, is) in
    absurd (early_short (job_of c.args.job.now) (subst (IsRefusedEarly (job_of c.args.job.now)) found c.in_err-prepared.ensures.refused))

pub returns-in_err-prepared-clause-refused : goal.returns-in_err-prepared-clause-refused
returns-in_err-prepared-clause-refused c =
    let p = err_from_is_err_and c.from_residual.result c.from_residual.ensures.1 in
    rw (p.1, p.2) (λ other. early_cause (job_of c.args.job.now) c.in_err-prepared.field-0.0 c.in_err-prepared.ensures.refused)

pub returns-in_err-prepared-clause-never_write : goal.returns-in_err-prepared-clause-never_write
returns-in_err-prepared-clause-never_write c = λ sent is.
    let p = err_from_is_err_and c.from_residual.result c.from_residual.ensures.1 in
    let found : c.in_err-prepared.field-0.0 ≡ fault.WriteFault sent = cc (p.1, p.2, is) in
    absurd (early_unsent (job_of c.args.job.now) sent (subst (IsRefusedEarly (job_of c.args.job.now)) found c.in_err-prepared.ensures.refused))

pub returns-clause-ok : goal.returns-clause-ok
returns-clause-ok c =
    let job = job_of c.args.job.now in
    let text : List ℕ = all_text (data_of c.in_ok-prepared.prepared) c.in_ok-totals.totals in
    IfOk-weaker c.report_of.result (λ found. found ≡ text) (IsPrintOf (printing_all job))
    (λ found same. subst (IsPrintOf (printing_all job)) (sym same) (report_of_job job c.in_ok-prepared.prepared c.in_ok-totals.totals c.in_ok-prepared.ensures.prepared c.in_ok-totals.ensures.totals))
    c.report_of.ensures.value

pub returns-clause-too_long : goal.returns-clause-too_long
returns-clause-too_long c = λ is. record {
  bytes = all_text (data_of c.in_ok-prepared.prepared) c.in_ok-totals.totals;
  is_print = report_of_job (job_of c.args.job.now) c.in_ok-prepared.prepared c.in_ok-totals.totals c.in_ok-prepared.ensures.prepared c.in_ok-totals.ensures.totals;
  longer = c.report_of.ensures.long is;
}

pub returns-in_err-totals-clause-refused : goal.returns-in_err-totals-clause-refused
returns-in_err-totals-clause-refused c =
    let p = err_from_is_err_and c.from_residual-in_err-totals.result c.from_residual-in_err-totals.ensures.1 in
    let prepared = c.in_ok-prepared.prepared in
    let found : IsUnassigned prepared.city prepared.tables.demand.pairs prepared.tables.zones.names c.in_err-totals.field-0.0 =
    subst (λ (names : List (List ℕ)). IsUnassigned prepared.city prepared.tables.demand.pairs names c.in_err-totals.field-0.0) c.names.ensures.value c.in_err-totals.ensures.refused in
    rw (p.1, p.2) (λ other. unassigned_cause (job_of c.args.job.now) prepared c.in_ok-prepared.ensures.prepared c.in_err-totals.field-0.0 found)

pub returns-clause-totals : goal.returns-clause-totals
returns-clause-totals c =
    let job = job_of c.args.job.now in
    let totals = c.in_ok-totals.totals in
    let text : List ℕ = all_text (data_of c.in_ok-prepared.prepared) totals in
    IfOk-weaker c.report_of.result (λ found. found ≡ text) (λ found. PrintsTotals (printing_all job) (Some []) (Some found))
    (λ found same. report_totals job c.in_ok-prepared.prepared totals c.in_ok-prepared.ensures.prepared c.in_ok-totals.ensures.totals c.in_ok-totals.ensures.units
    (c.loads_follow.ensures.loads totals.volumes c.in_ok-totals.ensures.totals.in_and_out) found same)
    c.report_of.ensures.value

pub returns-clause-refused : goal.returns-clause-refused
returns-clause-refused c =
    IfErr-weaker c.report_of.result (λ found. (found ≡ too_long) ⊎ (found ≡ fault.NoMemory)) (λ found. found ≢ too_long → HasCause (job_of c.args.job.now) found)
    (report_cause (job_of c.args.job.now)) c.report_of.ensures.refused
