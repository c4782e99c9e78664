use Rattle.std.proofs.Common.{arith}
use Rattle.std.proofs.lemmas.Grind.{common_steps}
use Rattle.desk_io.proofs.ToldLemmas.{takes_then, left_of_takes, takes_at_most}
use Rattle.desk_io.proofs.whole.read_all.Goals as goal

pub returns-then-n-room-clause-one_past : goal.returns-then-n-room-clause-one_past
returns-then-n-room-clause-one_past g c = λ _.
    left_of_takes _ _ _ _ (takes_then _ _ _ _ _ c.loop-n.invariant.bytes c.in-Ok.ensures.ok)
    (grind (arith, common_steps, c.in-Ok.ensures.within))

pub returns-then-n-room-clause-taken : goal.returns-then-n-room-clause-taken
returns-then-n-room-clause-taken g c =
    takes_at_most _ _ _ _ _ _ c.loop-n.invariant.bytes c.in-Ok.ensures.ok
    (grind (arith, common_steps, c.in-Ok.ensures.within))

pub returns-in_err-extend_from_slice-clause-taken : goal.returns-in_err-extend_from_slice-clause-taken
returns-in_err-extend_from_slice-clause-taken g c =
    takes_at_most _ _ _ _ _ _ c.loop-n.invariant.bytes c.in-Ok.ensures.ok
    (grind (arith, common_steps, c.in-Ok.ensures.within))
