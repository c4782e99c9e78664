use Rattle.std.proofs.Common.{◌≡◌, None}
use Rattle.feed_reader.specs.Ids.{number_of}
use Rattle.feed_reader.proofs.ServiceLemmas.{number-last}
use Rattle.feed_reader.proofs.services.note_service.Goals as goal

pub returns-clause-number : goal.returns-clause-number
returns-clause-number c =
    let none : number_of c.args.services.now c.args.id.now ≡ None = cc in
    rw (c.in_ok-push.ensures.ok, c.len-number.ensures.value) (number-last c.args.services.now c.args.id.now none)
