use Rattle.std.proofs.Common.{◌≡◌, map, take}
use Rattle.lp_model.specs.Entered.{entering_in}
use Rattle.lp_model.proofs.entering.entering_of.Given as goal

-- the arcs of the numbers so far
abbrev pub invariant-loop-arc : goal.invariant-loop-arc
invariant-loop-arc l = record { value : l.entering.items ≡ map (entering_in l.arcs) (take l.arc-index l.numbers) }
