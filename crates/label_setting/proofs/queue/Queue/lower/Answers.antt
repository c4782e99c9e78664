use Rattle.label_setting.proofs.NumberLemmas.{lower_kept}
use Rattle.label_setting.proofs.queue.Queue.lower.Goals as goal

pub returns-in-Some : goal.returns-in-Some
returns-in-Some c = record { value = lower_kept c.args.self.now c.args.item c.in-Some.number c.args.bound c.in-Some.ensures.value c.if-number-bound.true }
