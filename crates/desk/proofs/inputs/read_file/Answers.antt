use Rattle.std.proofs.Common.{Err, refl, ap}
use Rattle.definitions.specs.declared.limits.TheConstants.{FILE_LIMIT}
use Rattle.desk.proofs.FileLemmas.{long_file}
use Rattle.desk.proofs.InputFaultLemmas.{file_is_read}
use Rattle.desk.proofs.inputs.read_file.Goals as goal

pub returns-in-Ok-clause-file : goal.returns-in-Ok-clause-file
returns-in-Ok-clause-file g c =
    file_is_read (g.D.Folder.files c.args.folder.now) (g.D.Source.left c.begin.new.self) c.args.path.now c.in-Ok.bytes.items c.new.result
    (c.in-Found.ensures.found refl) (c.in-Found.ensures.begun refl) c.in-Ok.ensures.value c.in-Ok.ensures.within c.new.ensures.value

pub returns-in-Err-TooLarge-clause-unread : goal.returns-in-Err-TooLarge-clause-unread
returns-in-Err-TooLarge-clause-unread g c = (
  refl,
  refl,
  long_file (g.D.Folder.files c.args.folder.now) (g.D.Source.left c.begin.new.self) c.args.path.now FILE_LIMIT
      (c.in-Found.ensures.found refl) (c.in-Found.ensures.begun refl) (c.in-Err-TooLarge.ensures.too_large (ap (λ fault. Err fault) c.in-Err-TooLarge.field-0-is)),
)
