use Rattle.std.proofs.Common.{◌≡◌, Err, refl, sym, ap, subst, ◌∙◌}
use Rattle.std.specs.Option.{option_copied}
use Rattle.assign.specs.Jobs.{JobData}
use Rattle.desk.specs.Assigned.{job_with}
use Rattle.desk.specs.Ends.{Writes, EndsJob}
use Rattle.desk.specs.JobCauses.{cause_of}
use Rattle.desk.proofs.EndLemmas.{fault_ends, job_is, left_behind}
use Rattle.desk.proofs.assigning.print_job.Goals as goal

pub returns-in-Err-clause-ends : goal.returns-in-Err-clause-ends
returns-in-Err-clause-ends g c =
    let here : JobData = record {
      files = c.args.inputs.now.files;
      zones = c.as_slice.result.now;
      walks = option_copied c.bytes_of.result;
      demand = c.as_slice-2.result.now;
      scenario = option_copied c.bytes_of-2.result;
      period = c.args.period;
      print = c.args.print;
      to_zone = option_copied c.text_of.result;
    } in
    let there : JobData = job_with c.args.inputs.now c.args.period c.args.print c.args.to_zone.now in
    let writes : Writes = record { old_count = g.O.Counted.count c.args.out.now; new_count = g.O.Counted.count c.job.new.out; old = g.O.Sink.written c.args.out.now; new = g.O.Sink.written c.job.new.out } in
    let same : here ≡ there =
    job_is c.args.inputs.now c.args.period c.args.print c.args.to_zone.now here
    refl c.as_slice.ensures.value c.bytes_of.ensures.value c.as_slice-2.ensures.value c.bytes_of-2.ensures.value refl refl c.text_of.ensures.value in
    let ends : EndsJob here writes (cause_of c.in-Err.fault) =
    fault_ends here writes c.in-Err.fault c.in-Err.ensures.refused (λ other memory. ap g.O.Sink.written (c.in-Err.ensures.nothing other memory))
    (λ sent e. c.job.ensures.sent sent (c.in-Err.is ∙ ap (λ fault. Err fault) e)) (λ sent e. c.job.ensures.write_cause sent (c.in-Err.is ∙ ap (λ fault. Err fault) e))
    (λ e. left_behind here g.O.Sink.written c.args.out.now c.job.new.out (c.job.ensures.no_memory (c.in-Err.is ∙ ap (λ fault. Err fault) e))
    (c.job.ensures.in_one_piece (c.in-Err.is ∙ ap (λ fault. Err fault) e))) in
    subst (EndsJob there writes) (sym c.from.ensures) (subst (λ job. EndsJob job writes (cause_of c.in-Err.fault)) same ends)
