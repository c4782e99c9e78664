use Rattle.label_setting.specs.Workspace.{IsRoomFor}
use Rattle.label_setting.proofs.workspace.tests.first_that_differs.Given as goal

abbrev pub invariant-loop-dest : goal.invariant-loop-dest
invariant-loop-dest l = IsRoomFor l.net l.ws
