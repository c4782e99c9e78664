use Rattle.skims.proofs.NearLemmas.{parts_are_near}
use Rattle.skims.proofs.laws.parts_are_near_labels.Goals as goal

pub returns : goal.returns
returns c = record { near = parts_are_near }
