use Rattle.desk.proofs.DrawLemmas.{drawn, one_draw}
use Rattle.desk.proofs.generating.draws.draw.Goals as goal

pub returns-clause-value : goal.returns-clause-value
returns-clause-value c = λ seed before at. drawn seed before c.from.ensures (one_draw seed before at)

pub returns-clause-state : goal.returns-clause-state
returns-clause-state c = λ seed before at. one_draw seed before at
