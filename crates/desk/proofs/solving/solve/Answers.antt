use Rattle.std.proofs.Common.{refl}
use Rattle.certificate.specs.NetworkRefusals.{problem_of}
use Rattle.desk.proofs.EndLemmas.{solving_ends, unposed_ends}
use Rattle.desk.proofs.solving.solve.Goals as goal

pub returns-in-Ok-clause-ends : goal.returns-in-Ok-clause-ends
returns-in-Ok-clause-ends g c =
    solving_ends
    (record { files = g.D.Folder.files c.args.folder.now; old_count = g.D.Counted.count c.args.folder.now; new_count = g.D.Counted.count c.problem_of_file.new.folder })
    (record { old_count = g.O.Counted.count c.args.out.now; new_count = g.O.Counted.count c.solve_problem.new.out; old = g.O.Sink.written c.args.out.now; new = g.O.Sink.written c.solve_problem.new.out })
    c.args.path.now (problem_of c.in-Ok.problem) c.solve_problem.result c.in-Ok.ensures.posed c.solve_problem.ensures.ends

pub returns-in-Err-clause-ends : goal.returns-in-Err-clause-ends
returns-in-Err-clause-ends g c =
    unposed_ends
    (record { files = g.D.Folder.files c.args.folder.now; old_count = g.D.Counted.count c.args.folder.now; new_count = g.D.Counted.count c.problem_of_file.new.folder })
    (record { old_count = g.O.Counted.count c.args.out.now; new_count = g.O.Counted.count c.args.out.now; old = g.O.Sink.written c.args.out.now; new = g.O.Sink.written c.args.out.now })
    c.args.path.now c.in-Err.cause c.in-Err.ensures.unposed refl
