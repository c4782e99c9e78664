use Rattle.std.proofs.Common.{◌≡◌, ◌∙◌, Some, length, slice_get, sym, refl}
use Rattle.std.proofs.lemmas.Option.{slice_get_read}
use Rattle.feed_reader.proofs.IdLemmas.{same-bytes}
use Rattle.feed_reader.proofs.ids.Ids.guessed.Goals as goal

pub returns-then-eq : goal.returns-then-eq
returns-then-eq c =
    let names = c.as_slice.result.now in
    let read = c.in_ok-name.ensures.lookup in
    let there : slice_get names c.in_ok-guess.guess ≡ Some c.in_ok-name.name.now = slice_get_read names (length names) c.in_ok-guess.guess c.in_ok-name.name.now refl read.3.0 read.1 in
    let once = c.self.invariant.once c.in_ok-guess.guess c.in_ok-name.name.now (rw c.as_slice.ensures.value at there) in
    let same = sym c.as_str.ensures.value ∙ same-bytes c.as_str.result.now c.args.id.now (sym c.if-eq.ensures) in
    record { right = rw (c.self.view_is, same) at once }
