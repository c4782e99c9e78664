use Rattle.std.proofs.Common.{◌≡◌, ◌<◌, refl, subst, length, take}
use Rattle.std.specs.Prelude.{IfErr, OnOk}
use Rattle.certificate.specs.Spelling.{Certificate, certificate_of, spelling}
use Rattle.definitions.specs.Network.{IsNetwork}
use Rattle.desk_io.specs.Told.{Appends}
use Rattle.desk_io.specs.declared.whole.WriteFault.{WriteFault}
use Rattle.assign.specs.Prints.{certificate_in}
use Rattle.assign.specs.Rooms.{visit_in}
use Rattle.assign.specs.Visits.{goal_of}
use Rattle.assign.proofs.CertificateLemmas.{room_valid}
use Rattle.assign.proofs.certifying.write_room.Goals as goal

pub returns-clause-valid : goal.returns-clause-valid
returns-clause-valid g c =
    room_valid c.args.city.now (goal_of c.args.city.now c.args.zone) c.args.room.now (subst IsNetwork c.net-net.ensures.value c.rules.ensures.rules) c.requires.filled

pub returns-clause-ok : goal.returns-clause-ok
returns-clause-ok g c =
    let same : certificate_of c.net-net.result.now c.goal.result c.deref.result.now c.labels.result.now c.volumes.result.now c.waits.result.now
    ≡ certificate_in c.args.city.now (visit_in (goal_of c.args.city.now c.args.zone) c.args.room.now) =
    rw (c.net-net.ensures.value, c.goal.ensures.value, c.deref.ensures.value, c.labels.ensures.value, c.volumes.ensures.value, c.waits.ensures.value) refl in
    subst (λ (text : Certificate). OnOk c.write_certificate.result (Appends (g.S.Sink.written c.args.out.now) (g.S.Sink.written c.write_certificate.new.out) (spelling text))) same
    c.write_certificate.ensures.ok

pub returns-clause-err : goal.returns-clause-err
returns-clause-err g c =
    let same : certificate_of c.net-net.result.now c.goal.result c.deref.result.now c.labels.result.now c.volumes.result.now c.waits.result.now
    ≡ certificate_in c.args.city.now (visit_in (goal_of c.args.city.now c.args.zone) c.args.room.now) =
    rw (c.net-net.ensures.value, c.goal.ensures.value, c.deref.ensures.value, c.labels.ensures.value, c.volumes.ensures.value, c.waits.ensures.value) refl in
    subst (λ (text : Certificate). IfErr c.write_certificate.result (λ (found : WriteFault). Appends (g.S.Sink.written c.args.out.now) (g.S.Sink.written c.write_certificate.new.out) (take found.sent (spelling text)))) same
    c.write_certificate.ensures.err

pub returns-clause-sent : goal.returns-clause-sent
returns-clause-sent g c =
    let same : certificate_of c.net-net.result.now c.goal.result c.deref.result.now c.labels.result.now c.volumes.result.now c.waits.result.now
    ≡ certificate_in c.args.city.now (visit_in (goal_of c.args.city.now c.args.zone) c.args.room.now) =
    rw (c.net-net.ensures.value, c.goal.ensures.value, c.deref.ensures.value, c.labels.ensures.value, c.volumes.ensures.value, c.waits.ensures.value) refl in
    subst (λ (text : Certificate). IfErr c.write_certificate.result (λ (found : WriteFault). found.sent < length (spelling text))) same
    c.write_certificate.ensures.sent
