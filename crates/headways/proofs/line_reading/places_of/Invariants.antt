use Rattle.std.proofs.Common.{◌≡◌, map, take}
use Rattle.headways.specs.Lines.{place_of}
use Rattle.headways.proofs.line_reading.places_of.Given as goal

abbrev pub invariant-loop-call : goal.invariant-loop-call
invariant-loop-call l = l.places.items ≡ map place_of (take l.call-index l.calls)
