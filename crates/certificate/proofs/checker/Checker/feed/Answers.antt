use Rattle.std.proofs.Common.{◌≡◌, ◌++◌, ◌⊎◌, ◌∙◌, ap, sym, subst}
use Rattle.certificate.specs.declared.refused.Refused.TheVariants as refused
use Rattle.certificate.specs.CheckerFields.{checker_of}
use Rattle.certificate.specs.Fed.{CheckerData, bytes_so_far, IsRefusedForGood}
use Rattle.certificate.specs.CheckerFields.{bytes_of, IsReading}
use Rattle.certificate.proofs.ForGood.{for_good}
use Rattle.certificate.proofs.OneFault.{only_end}
use Rattle.certificate.proofs.ArcsLine.{unended_of, past_read}
use Rattle.certificate.proofs.checker.Checker.feed.Goals as goal

pub returns-in-Err-clause-refused : goal.returns-in-Err-clause-refused
returns-in-Err-clause-refused c = λ fresh.
    subst (λ bytes. (c.in-Err.refused ≡ refused.NoMemory) ⊎ IsRefusedForGood (bytes ++ c.args.piece.now) c.in-Err.refused) (ap bytes_so_far c.self.view_is)
    (for_good (bytes_so_far (checker_of c.self.inside) ++ c.args.piece.now) c.in-Err.refused c.in-Err.ensures.refused)

pub returns-in-Ok-clause-faultless : goal.returns-in-Ok-clause-faultless
returns-in-Ok-clause-faultless c = λ answer faulty. only_end (bytes_of c.read.new.self) answer (unended_of c.read.new.self c.in-Ok.ensures.reading) faulty

pub returns-in-Err-clause-memory : goal.returns-in-Err-clause-memory
returns-in-Err-clause-memory c = λ fresh arcs same.
    let reading : IsReading c.self.inside.reading = c.self.invariant (ap (λ (v : CheckerData). v.refused) c.self.view_is ∙ fresh) in
    c.in-Err.ensures.memory (past_read c.self.inside.reading c.args.self.now reading (sym (ap bytes_so_far c.self.view_is)) arcs) same
