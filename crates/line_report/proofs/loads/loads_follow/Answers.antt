use Rattle.std.proofs.Common.{subst}
use Rattle.definitions.specs.Network.{IsNetwork}
use Rattle.line_report.proofs.LoadLemmas.{loads_add_up}
use Rattle.line_report.proofs.loads.loads_follow.Goals as goal

pub returns : goal.returns
returns c = record {
  loads = λ volumes.
      loads_add_up c.args.city.now c.args.feed.now c.args.lines.now.lines volumes c.rules.ensures.rules
      (subst IsNetwork c.net.ensures.value c.rules-2.ensures.rules) c.requires.city;
}
