use Rattle.std.proofs.Common.{◌≡◌, ◌≤◌, ◌<◌, ℕ, List, length, subst, sym, take, arith}
use Rattle.std.specs.List.{All}
use Rattle.std.proofs.lemmas.Result.{err_from_is_err_and}
use Rattle.certificate.specs.Spelling.{spelling}
use Rattle.definitions.specs.declared.limits.TheConstants.{UNIT_LIMIT}
use Rattle.demand.specs.Laws.{IsPairAmong}
use Rattle.demand.specs.declared.tables.Pair.{Pair}
use Rattle.desk_io.specs.Told.{Appends}
use Rattle.assign.specs.Conditions.{units_of_pairs}
use Rattle.assign.specs.Prints.{certificate_in}
use Rattle.assign.specs.Reached.{AllPairsReach}
use Rattle.assign.specs.Rooms.{visit_in}
use Rattle.assign.specs.Visits.{IsVisitOf, Visit, goal_of}
use Rattle.assign.proofs.CertificateLemmas.{cut_certificate, written_certificate, written_valid}
use Rattle.assign.proofs.PairLemmas.{are_pairs}
use Rattle.assign.proofs.certifying.certificate_to.Goals as goal

pub filled_for-requires-clause-pairs : goal.filled_for-requires-clause-pairs
filled_for-requires-clause-pairs g c =
    let within : units_of_pairs c.pairs-pairs.result.now ≤ UNIT_LIMIT = omega arith in
    are_pairs c.args.city.now.zones c.pairs-pairs.result.now (subst (All (IsPairAmong c.args.city.now.zones)) (sym c.pairs-pairs.ensures.value) c.requires.pairs)
    c.pairs-pairs.ensures.ordered within

pub filled_for-requires-clause-reach : goal.filled_for-requires-clause-reach
filled_for-requires-clause-reach g c = subst (AllPairsReach c.args.city.now) (sym c.pairs-pairs.ensures.value) c.requires.reach

pub returns-in_err-write_room-clause-sent : goal.returns-in_err-write_room-clause-sent
returns-in_err-write_room-clause-sent g c = λ sent is.
    let p = err_from_is_err_and c.from_residual-in_err-write_room.result c.from_residual-in_err-write_room.ensures.1 in
    let same : c.in_err-write_room.field-0.0.sent ≡ sent = cc (p.1, p.2, is) in
    let visit : Visit = visit_in (goal_of c.args.city.now c.args.zone) c.in_ok-room.room in
    let text : List ℕ = spelling (certificate_in c.args.city.now visit) in
    cut_certificate c.args.city.now c.args.demand.now.pairs c.args.zone sent visit (g.S.Sink.written c.args.out.now) (g.S.Sink.written c.write_room.new.out)
    (subst (λ (pairs : List Pair). IsVisitOf c.args.city.now pairs c.args.zone visit) c.pairs-pairs.ensures.value c.in_ok-room.ensures.visit)
    (subst (λ (n : ℕ). n < length text) same c.in_err-write_room.ensures.sent)
    (subst (λ (n : ℕ). Appends (g.S.Sink.written c.args.out.now) (g.S.Sink.written c.write_room.new.out) (take n text)) same c.in_err-write_room.ensures.err)

pub returns-clause-ok : goal.returns-clause-ok
returns-clause-ok g c =
    let visit : Visit = visit_in (goal_of c.args.city.now c.args.zone) c.in_ok-room.room in
    written_certificate c.args.city.now c.args.demand.now.pairs c.args.zone visit (g.S.Sink.written c.args.out.now) (g.S.Sink.written c.write_room.new.out)
    (subst (λ (pairs : List Pair). IsVisitOf c.args.city.now pairs c.args.zone visit) c.pairs-pairs.ensures.value c.in_ok-room.ensures.visit) c.in_ok-write_room.ensures.ok

pub returns-clause-valid : goal.returns-clause-valid
returns-clause-valid g c =
    let visit : Visit = visit_in (goal_of c.args.city.now c.args.zone) c.in_ok-room.room in
    written_valid c.args.city.now c.args.demand.now.pairs c.args.zone visit (g.S.Sink.written c.args.out.now) (g.S.Sink.written c.write_room.new.out)
    (subst (λ (pairs : List Pair). IsVisitOf c.args.city.now pairs c.args.zone visit) c.pairs-pairs.ensures.value c.in_ok-room.ensures.visit) c.in_ok-write_room.ensures.valid
    c.in_ok-write_room.ensures.ok
