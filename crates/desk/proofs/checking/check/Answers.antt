use Rattle.std.proofs.Common.{refl}
use Rattle.desk.proofs.EndLemmas.{unchecked_ends}
use Rattle.desk.proofs.checking.check.Goals as goal

pub returns-in-Err : goal.returns-in-Err
returns-in-Err g c = record {
  ends =
      unchecked_ends
      (record { files = g.D.Folder.files c.args.folder.now; old_count = g.D.Counted.count c.args.folder.now; new_count = g.D.Counted.count c.verdict_of_file.new.folder })
      (record { old_count = g.O.Counted.count c.args.out.now; new_count = g.O.Counted.count c.args.out.now; old = g.O.Sink.written c.args.out.now; new = g.O.Sink.written c.args.out.now })
      c.args.path.now c.in-Err.cause c.in-Err.ensures.unchecked refl;
}
