use Rattle.std.proofs.Common.{refl}
use Rattle.desk.proofs.EndLemmas.{inputs_end, job_ends}
use Rattle.desk.proofs.OneAssignment.{period_fine}
use Rattle.desk.specs.Assigned.{job_with}
use Rattle.desk.proofs.assigning.assign_in.Goals as goal

pub returns-in-Ok-clause-ends : goal.returns-in-Ok-clause-ends
returns-in-Ok-clause-ends g c =
    job_ends
    (record { files = g.D.Folder.files c.args.folder.now; old_count = g.D.Counted.count c.args.folder.now; new_count = g.D.Counted.count c.read_inputs.new.folder })
    (record { old_count = g.O.Counted.count c.args.out.now; new_count = g.O.Counted.count c.print_job.new.out; old = g.O.Sink.written c.args.out.now; new = g.O.Sink.written c.print_job.new.out })
    c.args.words.now (job_with c.in-Ok.inputs c.args.period c.args.words.now.print c.args.words.now.to_zone) c.print_job.result
    (record { period = c.requires.period; inputs = c.in-Ok.ensures.inputs; is_print = refl; is_zone = refl }) c.print_job.ensures.ends

pub returns-in-Ok-clause-totals : goal.returns-in-Ok-clause-totals
returns-in-Ok-clause-totals g c done = record {
  job = job_with c.in-Ok.inputs c.args.period c.args.words.now.print c.args.words.now.to_zone;
  is_job = record { period = c.requires.period; inputs = c.in-Ok.ensures.inputs; is_print = refl; is_zone = refl };
  prints = c.print_job.ensures.totals done;
}

pub returns-in-Ok-clause-certified : goal.returns-in-Ok-clause-certified
returns-in-Ok-clause-certified g c certificate done = record {
  job = job_with c.in-Ok.inputs c.args.period c.args.words.now.print c.args.words.now.to_zone;
  is_job = record { period = c.requires.period; inputs = c.in-Ok.ensures.inputs; is_print = refl; is_zone = refl };
  prints = c.print_job.ensures.certified certificate done;
}

pub returns-in-Err-clause-ends : goal.returns-in-Err-clause-ends
returns-in-Err-clause-ends g c =
    inputs_end
    (record { files = g.D.Folder.files c.args.folder.now; old_count = g.D.Counted.count c.args.folder.now; new_count = g.D.Counted.count c.read_inputs.new.folder })
    (record { old_count = g.O.Counted.count c.args.out.now; new_count = g.O.Counted.count c.args.out.now; old = g.O.Sink.written c.args.out.now; new = g.O.Sink.written c.args.out.now })
    c.args.words.now c.in-Err.cause (period_fine c.args.words.now c.args.period c.requires.period) c.in-Err.ensures.fault refl
