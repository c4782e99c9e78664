use Rattle.scenarios.proofs.fare.TimeFare.new.Goals as goal

pub returns-clause-keeps : goal.returns-clause-keeps
returns-clause-keeps g c = rw c.of.ensures c.requires.answers
