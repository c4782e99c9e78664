use Rattle.std.proofs.Common.{◌∙◌, sym}
use Rattle.feed_reader.proofs.StopLemmas.{side-absent, side-at}
use Rattle.feed_reader.proofs.stops.StopTable.side.Goals as goal

pub returns-in_err-find : goal.returns-in_err-find
returns-in_err-find c =
    let absent = side-absent c.self.inside.sheet.rows c.self.inside.known c.self.inside.sides.items c.self.inside.stops.items c.args.id.now c.self.invariant (sym c.in_err-find.ensures.value) in
    record { value = c.from_residual.ensures ∙ sym (rw c.self.view_is at absent) }

pub returns : goal.returns
returns c =
    let there = side-at c.self.inside.sheet.rows c.self.inside.known c.self.inside.sides.items c.self.inside.stops.items c.args.id.now c.in_ok-find.field-0 c.index.result.now c.self.invariant
    (sym c.in_ok-find.ensures.value) c.in_ok-find.ensures.within in
    record { value = c.index.ensures ∙ rw c.self.view_is at there }
