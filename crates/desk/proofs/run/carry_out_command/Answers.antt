use Rattle.std.proofs.Common.{◌≡◌, Some, subst, sym}
use Rattle.assign.specs.Printed.{PrintsTotals}
use Rattle.desk.specs.Ends.{EndsCommand}
use Rattle.desk.specs.GeneratedJobs.{generated_job}
use Rattle.desk.proofs.EndLemmas.{gen_ends}
use Rattle.desk.proofs.run.carry_out_command.Goals as goal

pub returns-in-Gen-clause-ends : goal.returns-in-Gen-clause-ends
returns-in-Gen-clause-ends g c =
    subst (λ command. EndsCommand
    (record { files = g.D.Folder.files c.args.folder.now; old_count = g.D.Counted.count c.args.folder.now; new_count = g.D.Counted.count c.args.folder.now })
    (record { old_count = g.O.Counted.count c.args.out.now; new_count = g.O.Counted.count c.assign_generated.new.out; old = g.O.Sink.written c.args.out.now; new = g.O.Sink.written c.assign_generated.new.out })
    (Some command) c.assign_generated.result) (sym c.in-Gen.is)
    (gen_ends
    (record { files = g.D.Folder.files c.args.folder.now; old_count = g.D.Counted.count c.args.folder.now; new_count = g.D.Counted.count c.args.folder.now })
    (record { old_count = g.O.Counted.count c.args.out.now; new_count = g.O.Counted.count c.assign_generated.new.out; old = g.O.Sink.written c.args.out.now; new = g.O.Sink.written c.assign_generated.new.out })
    c.in-Gen.words c.assign_generated.result c.assign_generated.ensures.ends)

pub returns-in-Gen-clause-generated : goal.returns-in-Gen-clause-generated
returns-in-Gen-clause-generated g c values is done =
    let here = c.in-Gen.is in
    let same : c.in-Gen.words ≡ values = cc (is, here) in
    subst (λ words. PrintsTotals (generated_job words) (g.O.Sink.written c.args.out.now) (g.O.Sink.written c.assign_generated.new.out)) same (c.assign_generated.ensures.totals done)
