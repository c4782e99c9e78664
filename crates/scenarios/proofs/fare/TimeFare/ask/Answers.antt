use Rattle.scenarios.proofs.fare.TimeFare.ask.Goals as goal

pub returns : goal.returns
returns g c = record { value = (c.requires.keeps c.args.route c.args.layer c.requires.route).1 c.answer.result c.answer.ensures }
