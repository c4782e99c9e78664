use Rattle.definitions.specs.Network.{head_of, out_arcs}
use Rattle.assign.specs.Marks.{IsEndAmong, Marks}
use Rattle.assign.proofs.marking.Marking.mark_heads.Given as goal

-- the heads of the arcs so far are marked
abbrev pub invariant-loop-place : goal.invariant-loop-place
invariant-loop-place l = Marks (IsEndAmong (head_of l.net) (out_arcs l.net l.node) l.place) l.initial.self l.self
