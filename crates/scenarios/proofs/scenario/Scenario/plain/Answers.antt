use Rattle.std.proofs.Common.{ap, length}
use Rattle.std.proofs.lemmas.Result.{IfOk-weaker}
use Rattle.scenarios.proofs.ScenarioLemmas.{size-unedited}
use Rattle.scenarios.proofs.scenario.Scenario.plain.Goals as goal

pub returns-clause-size : goal.returns-clause-size
returns-clause-size c = IfOk-weaker c.unedited.result _ _ (λ s is. size-unedited c.args.feed.now s (length c.routes.result.now) (length c.stops.result.now) is (ap length c.routes.ensures.value) (ap length c.stops.ensures.value)) c.unedited.ensures.value
