use Rattle.definitions.proofs.DualityLemmas.{duality}
use Rattle.definitions.proofs.duality.weak_duality.Goals as goal

pub returns : goal.returns
returns c = record { no_plan_is_cheaper = duality }
