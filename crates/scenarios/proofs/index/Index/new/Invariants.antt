use Rattle.std.proofs.Common.{map, take}
use Rattle.scenarios.specs.Index.{IsIndex}
use Rattle.scenarios.proofs.index.Index.new.Given as goal

abbrev pub invariant-loop-place : goal.invariant-loop-place
invariant-loop-place l = IsIndex (take l.place (map (λ id. id.now) l.ids.items)) l.numbers
