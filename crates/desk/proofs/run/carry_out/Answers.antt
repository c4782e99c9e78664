use Rattle.std.proofs.Common.{◌≡◌, Some, sym, ◌∙◌}
use Rattle.desk.specs.declared.command.Command.TheVariants.{Assign}
use Rattle.desk.proofs.run.carry_out.Goals as goal

pub returns-in-Ok-clause-certified : goal.returns-in-Ok-clause-certified
returns-in-Ok-clause-certified g c values is certificate done =
    let both : Some c.in-Ok.command ≡ Some (Assign values) = sym c.in-Ok.ensures.ok ∙ is in
    let same : c.in-Ok.command ≡ Assign values = cc both in
    c.carry_out_command.ensures.certified values same certificate done
