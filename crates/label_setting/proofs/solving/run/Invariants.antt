use Rattle.label_setting.specs.Partway.{left}
use Rattle.label_setting.specs.Settling.{IsMadeFor, IsBounded, Settles, mark_in, number_in}
use Rattle.label_setting.proofs.solving.run.Given as goal

abbrev pub invariant-loop : goal.invariant-loop
invariant-loop l = record {
  made : IsMadeFor l.net l.state;
  bounded : IsBounded l.net l.state;
  settles : Settles l.net l.dest l.state;
}

abbrev pub decreases-loop : goal.decreases-loop
decreases-loop l = left l.net (mark_in l.state) (number_in l.state)
