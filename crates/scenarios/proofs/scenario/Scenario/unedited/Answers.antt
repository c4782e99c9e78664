use Rattle.scenarios.proofs.ScenarioLemmas.{laws-unedited}
use Rattle.scenarios.proofs.scenario.Scenario.unedited.Goals as goal

pub invariant_of-result : goal.invariant_of-result
invariant_of-result c = laws-unedited _ _ _ _ c.args.routes c.args.stops c.in_ok-numbers.ensures.value c.in_ok-numbers-2.ensures.value c.in_ok-marks.ensures.value
