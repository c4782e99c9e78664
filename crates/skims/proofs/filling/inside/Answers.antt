use Rattle.skims.proofs.FillLemmas.{filled_within}
use Rattle.skims.proofs.filling.inside.Goals as goal

pub returns-clause-within : goal.returns-clause-within
returns-clause-within c =
    filled_within c.args.city.now c.args.goal c.args.reached.now c.args.labels.now c.args.order.now c.args.place c.args.rows.now
    c.requires.well_formed c.requires.labels c.requires.so_far
