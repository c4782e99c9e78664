-- What the clauses of a run say, from how its command ended.
use Rattle.std.proofs.Common.{◌≡◌, Option, sym, subst, ◌∙◌}
use Rattle.desk.specs.declared.command.Command.{Command}
use Rattle.desk.specs.declared.status.Cause.{Cause}
use Rattle.desk.specs.declared.status.Cause.TheVariants.{Done, Usage, Feed, Demand, Scenario, Range, ReadFault, WriteFault, NoMemory, Refused, Unreachable}
use Rattle.desk.specs.Ends.{Writes, EndsCommand}
use Rattle.desk.specs.Read.{Reads}
use Rattle.desk.specs.Outcome.{WritesNothing}

-- how it ended, at the cause that it is
pub ends_at : (reads : Reads) (writes : Writes) (command : Option Command) (cause other due : Cause) → EndsCommand reads writes command cause → other ≡ cause → other ≡ due → EndsCommand reads writes command due
ends_at reads writes command cause other due h same e = subst (EndsCommand reads writes command) (sym same ∙ e) h

-- where nothing is written
pub nothing_written : (reads : Reads) (writes : Writes) (command : Option Command) (cause : Cause) → EndsCommand reads writes command cause → WritesNothing command cause → writes.new ≡ writes.old
nothing_written reads writes command Done h none = absurd none
nothing_written reads writes command (Usage found) h none = h.1
nothing_written reads writes command (Feed found) h none = h.1
nothing_written reads writes command (Demand found) h none = h.1
nothing_written reads writes command (Scenario found) h none = h.1
nothing_written reads writes command (Range limit count) h none = h.1
nothing_written reads writes command ReadFault h none = h.1
nothing_written reads writes command (WriteFault sent) h none = absurd none
nothing_written reads writes command NoMemory h none = h.in_one_piece none
nothing_written reads writes command (Unreachable unreached) h none = h.1
nothing_written reads writes command (Refused found) h none = h.1
