use Rattle.std.proofs.Common.{◌∙◌, ap, take}
use Rattle.feed_reader.specs.Faults.{row_at}
use Rattle.scenarios.specs.Changes.{with_edit}
use Rattle.scenarios.specs.Edits.{edit_field, target_field, target_of}
use Rattle.scenarios.specs.Scenarios.{ScenarioData}
use Rattle.scenarios.proofs.ChangeLemmas.{part-there, scenario-next}
use Rattle.scenarios.proofs.EditLemmas.{edit-is}
use Rattle.scenarios.proofs.rows.read_row.Goals as goal

pub put-requires-clause-number : goal.put-requires-clause-number
put-requires-clause-number c =
    rw c.requires.so_far (part-there (target_of c.in_ok-edit.edit) c.args.routes.now c.args.stops.now (take c.args.row c.args.sheet.now.rows) (target_field (row_at c.args.sheet.now.rows c.args.row)) c.in_ok-number.number
    (rw c.target.ensures.value at c.in_ok-number.ensures.number))

pub returns-clause-scenario : goal.returns-clause-scenario
returns-clause-scenario c =
    c.put.ensures.value ∙ ap (λ (s : ScenarioData). with_edit s c.in_ok-edit.edit c.in_ok-number.number c.in_ok-value.value) c.requires.so_far
    ∙ scenario-next c.in_ok-edit.edit c.args.routes.now c.args.stops.now c.args.sheet.now.rows c.args.row c.in_ok-number.number c.in_ok-value.value c.requires.row
    (edit-is (edit_field (row_at c.args.sheet.now.rows c.args.row)) c.in_ok-edit.edit c.in_ok-edit.ensures.edit)
    (rw c.target.ensures.value at c.in_ok-number.ensures.number) (rw c.range.ensures.value at c.in_ok-value.ensures.value)
