use Rattle.std.proofs.Common.{arith, sym, [], ◌∙◌, ap}
use Rattle.std.specs.Str.{bytes_eq}
use Rattle.gtfs_rows.proofs.PositionLemmas.{position-found, position-none}
use Rattle.gtfs_rows.proofs.header.place_of.Goals as goal

pub returns-then-eq : goal.returns-then-eq
returns-then-eq c = record { value = sym (position-found (bytes_eq c.args.name.now) c.args.header.now 0 c.loop-place.place c.loop-place.place [] (omega arith) c.loop-place.invariant (sym (c.if-eq.ensures ∙ ap (bytes_eq c.args.name.now) c.get.ensures.value)) (omega arith)) }

pub returns : goal.returns
returns c = record { value = sym (position-none (bytes_eq c.args.name.now) c.args.header.now 0 [] (λ k h. c.loop-place.invariant k (omega arith))) }
