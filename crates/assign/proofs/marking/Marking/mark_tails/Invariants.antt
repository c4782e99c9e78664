use Rattle.definitions.specs.Network.{in_arcs, tail_of}
use Rattle.assign.specs.Marks.{IsEndAmong, Marks}
use Rattle.assign.proofs.marking.Marking.mark_tails.Given as goal

-- the tails of the arcs so far are marked
abbrev pub invariant-loop-place : goal.invariant-loop-place
invariant-loop-place l = Marks (IsEndAmong (tail_of l.net) (in_arcs l.net l.node) l.place) l.initial.self l.self
