use Rattle.std.proofs.Common.{◌≡◌, ◌∷◌, map, take}
use Rattle.headways.specs.Lines.{route_of}
use Rattle.headways.specs.Numbering.{code_of}
use Rattle.headways.proofs.keys.key_of.Given as goal

abbrev pub invariant-loop-call : goal.invariant-loop-call
invariant-loop-call l = l.key.items ≡ route_of l.fn.feed l.trip ∷ map code_of (take l.call-index l.call-items)
