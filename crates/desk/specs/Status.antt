-- The exit code of each cause. Here: docs/FORMATS.md.
use Rattle.std.specs.Prelude.{ℕ}
use Rattle.desk.specs.declared.status.Cause.{Cause}
use Rattle.desk.specs.declared.status.Cause.TheVariants.{Done, Usage, Feed, Demand, Scenario, Range, ReadFault, WriteFault, NoMemory, Refused, Unreachable}

-- the exit code of a cause
abbrev pub code_of : Cause → ℕ
code_of Done = 0
code_of (Usage fault) = 2
code_of (Feed fault) = 3
code_of (Demand fault) = 4
code_of (Scenario fault) = 5
code_of (Unreachable node) = 6
code_of (Range limit count) = 7
code_of ReadFault = 8
code_of (WriteFault sent) = 9
code_of NoMemory = 11
code_of (Refused fault) = 12
