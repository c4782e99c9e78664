use Rattle.std.proofs.Common.{◌≡◌, subst, inl, inr}
use Rattle.std.proofs.lemmas.Result.{IfErr-weaker, err_from_is_err_and, on_ok_weaker}
use Rattle.assign.specs.JobFaults.{HasCause}
use Rattle.assign.specs.JobSteps.{IsRefusedEarly, IsUnprinted}
use Rattle.assign.specs.JobViews.{job_of}
use Rattle.assign.specs.declared.job_fault.JobFault.TheVariants as fault
use Rattle.assign.proofs.JobFaultLemmas.{early_cause, early_unsent}
use Rattle.assign.proofs.JobLemmas.{copied_some, late_cause, no_memory_of_job, prints_certificate_of_job, prints_job, prints_part_of_job, prints_totals_of_job}
use Rattle.assign.proofs.jobs.job.Goals as goal

pub returns-in_err-prepared-clause-sent : goal.returns-in_err-prepared-clause-sent
returns-in_err-prepared-clause-sent g c = λ sent is.
    let p = err_from_is_err_and c.from_residual.result c.from_residual.ensures.1 in
    let found : c.in_err-prepared.field-0.0 ≡ fault.WriteFault sent = cc (p.1, p.2, is) in
    absurd (early_unsent (job_of c.args.job.now) sent (subst (IsRefusedEarly (job_of c.args.job.now)) found c.in_err-prepared.ensures.refused))

pub returns-in_err-prepared-clause-refused : goal.returns-in_err-prepared-clause-refused
returns-in_err-prepared-clause-refused g c =
    let p = err_from_is_err_and c.from_residual.result c.from_residual.ensures.1 in
    rw (p.1, p.2) (early_cause (job_of c.args.job.now) c.in_err-prepared.field-0.0 c.in_err-prepared.ensures.refused)

pub returns-in_err-prepared-clause-write_cause : goal.returns-in_err-prepared-clause-write_cause
returns-in_err-prepared-clause-write_cause g c = λ sent is.
    let p = err_from_is_err_and c.from_residual.result c.from_residual.ensures.1 in
    let found : c.in_err-prepared.field-0.0 ≡ fault.WriteFault sent = cc (p.1, p.2, is) in
    absurd (early_unsent (job_of c.args.job.now) sent (subst (IsRefusedEarly (job_of c.args.job.now)) found c.in_err-prepared.ensures.refused))

pub print_prepared-requires-clause-printable : goal.print_prepared-requires-clause-printable
print_prepared-requires-clause-printable g c = c.in_ok-prepared.ensures.prepared.over.printable

pub print_prepared-requires-clause-zone : goal.print_prepared-requires-clause-zone
print_prepared-requires-clause-zone g c = λ is. c.in_ok-prepared.ensures.prepared.over.asked (copied_some c.args.job.now.to_zone (c.requires.to_zone is))

pub returns-clause-ok : goal.returns-clause-ok
returns-clause-ok g c =
    on_ok_weaker c.print_prepared.result
    (prints_job (job_of c.args.job.now) c.in_ok-prepared.prepared c.in_ok-prepared.ensures.prepared (g.S.Sink.written c.args.out.now) (g.S.Sink.written c.print_prepared.new.out)) c.print_prepared.ensures.ok

pub returns-clause-totals : goal.returns-clause-totals
returns-clause-totals g c =
    on_ok_weaker c.print_prepared.result
    (prints_totals_of_job (job_of c.args.job.now) c.in_ok-prepared.prepared c.in_ok-prepared.ensures.prepared (g.S.Sink.written c.args.out.now) (g.S.Sink.written c.print_prepared.new.out))
    c.print_prepared.ensures.totals

pub returns-clause-certified : goal.returns-clause-certified
returns-clause-certified g c = λ is.
    on_ok_weaker c.print_prepared.result
    (prints_certificate_of_job (job_of c.args.job.now) c.in_ok-prepared.prepared c.in_ok-prepared.ensures.prepared (g.S.Sink.written c.args.out.now) (g.S.Sink.written c.print_prepared.new.out))
    (c.print_prepared.ensures.certified is)

pub returns-clause-sent : goal.returns-clause-sent
returns-clause-sent g c = λ sent is.
    prints_part_of_job (job_of c.args.job.now) c.in_ok-prepared.prepared c.in_ok-prepared.ensures.prepared sent (g.S.Sink.written c.args.out.now) (g.S.Sink.written c.print_prepared.new.out)
    (c.print_prepared.ensures.sent sent is)

pub returns-clause-no_memory : goal.returns-clause-no_memory
returns-clause-no_memory g c = λ is.
    no_memory_of_job (job_of c.args.job.now) c.in_ok-prepared.prepared c.in_ok-prepared.ensures.prepared (g.S.Sink.written c.args.out.now) (g.S.Sink.written c.print_prepared.new.out)
    (c.print_prepared.ensures.no_memory is)

pub returns-clause-refused : goal.returns-clause-refused
returns-clause-refused g c =
    IfErr-weaker c.print_prepared.result (IsUnprinted c.in_ok-prepared.prepared) (HasCause (job_of c.args.job.now))
    (late_cause (job_of c.args.job.now) c.in_ok-prepared.prepared c.in_ok-prepared.ensures.prepared) c.print_prepared.ensures.refused
