use Rattle.skims.proofs.PartLemmas.{parts_are_one}
use Rattle.skims.proofs.laws.one_parts.Goals as goal

pub returns : goal.returns
returns c = record { parts_are_one = parts_are_one }
