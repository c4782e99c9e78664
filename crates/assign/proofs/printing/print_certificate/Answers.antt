use Rattle.std.proofs.lemmas.Result.{on_ok_weaker}
use Rattle.assign.specs.JobSteps.{data_of}
use Rattle.assign.proofs.CertificateLemmas.{asked_certificate, asked_part, asked_valid}
use Rattle.assign.proofs.printing.print_certificate.Goals as goal

pub certificate_to-requires-clause-zone : goal.certificate_to-requires-clause-zone
certificate_to-requires-clause-zone g c = c.requires.printable.zone_there c.in-Some.zone c.in-Some.is

pub returns-clause-ok : goal.returns-clause-ok
returns-clause-ok g c =
    on_ok_weaker c.certificate_to.result
    (asked_certificate (data_of c.args.prepared.now) c.args.prepared.now.zone c.in-Some.zone (g.S.Sink.written c.args.out.now) (g.S.Sink.written c.certificate_to.new.out) c.in-Some.is)
    c.certificate_to.ensures.ok

pub returns-clause-certified : goal.returns-clause-certified
returns-clause-certified g c =
    on_ok_weaker c.certificate_to.result
    (asked_valid (data_of c.args.prepared.now) c.args.prepared.now.zone c.in-Some.zone (g.S.Sink.written c.args.out.now) (g.S.Sink.written c.certificate_to.new.out) c.in-Some.is)
    c.certificate_to.ensures.valid

pub returns-clause-sent : goal.returns-clause-sent
returns-clause-sent g c = λ sent is.
    asked_part (data_of c.args.prepared.now) c.args.prepared.now.zone c.in-Some.zone sent (g.S.Sink.written c.args.out.now) (g.S.Sink.written c.certificate_to.new.out) c.in-Some.is
    (c.certificate_to.ensures.sent sent is)
