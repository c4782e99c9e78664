use Rattle.std.proofs.Common.{rules, refl}
use Rattle.std.specs.Prelude.{◌≢◌}
use Rattle.certificate.specs.declared.refused.Refused.TheVariants as refused
use Rattle.desk.specs.Ends.{Unchecked}
use Rattle.desk.proofs.FileLemmas.{file_checked, file_refused, file_unread}
use Rattle.desk.proofs.checking.verdict_of_file.Goals as goal

pub returns-in_err-feed_all-clause-unchecked : goal.returns-in_err-feed_all-clause-unchecked
returns-in_err-feed_all-clause-unchecked g c =
    let why : Unchecked (record { files = g.D.Folder.files c.args.folder.now; old_count = g.D.Counted.count c.args.folder.now; new_count = g.D.Counted.count c.feed_all.new.source }) c.args.path.now c.in_err-feed_all.field-0.0 =
    file_unread (record { files = g.D.Folder.files c.args.folder.now; old_count = g.D.Counted.count c.args.folder.now; new_count = g.D.Counted.count c.feed_all.new.source })
    (g.D.Source.left c.begin.new.self) c.args.path.now (g.D.Counted.count c.begin.new.self) c.in_err-feed_all.field-0.0
    (c.in-Found.ensures.found refl) (c.in-Found.ensures.begun refl) c.begin.ensures.count c.feed_all.ensures.count c.in_err-feed_all.ensures.unfed in
    search rules

pub returns-in-Ok-clause-checked : goal.returns-in-Ok-clause-checked
returns-in-Ok-clause-checked g c =
    file_checked (g.D.Folder.files c.args.folder.now) (g.D.Source.left c.begin.new.self) c.args.path.now c.feed_all.new.checker c.finish.result c.in-Ok.verdict
    (c.in-Found.ensures.found refl) (c.in-Found.ensures.begun refl) c.in_ok-feed_all.ensures.fed c.in-Ok.is c.finish.ensures.same c.in-Ok.ensures.no_plan_is_cheaper

pub returns-in-Err : goal.returns-in-Err
returns-in-Err g c =
    let not_memory : c.in-Err.refused ≢ refused.NoMemory = search rules in
    record {
      checked = tt;
      gap = tt;
      unchecked =
          file_refused (g.D.Folder.files c.args.folder.now) (g.D.Source.left c.begin.new.self) c.args.path.now c.feed_all.new.checker c.finish.result c.in-Err.refused
          (c.in-Found.ensures.found refl) (c.in-Found.ensures.begun refl) c.in_ok-feed_all.ensures.fed c.in-Err.is not_memory c.finish.ensures.same c.finish.ensures.refused c.finish.ensures.only;
    }
