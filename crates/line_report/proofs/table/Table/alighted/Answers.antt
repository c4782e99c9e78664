use Rattle.std.proofs.Common.{subst}
use Rattle.network.specs.Cities.{IsCity}
use Rattle.line_report.proofs.LoadLemmas.{no_first_alight}
use Rattle.line_report.proofs.table.Table.alighted.Goals as goal

pub returns-then-place-eq0 : goal.returns-then-place-eq0
returns-then-place-eq0 c = record {
  value = no_first_alight c.args.self.now.city c.args.self.now.volumes c.args.kept c.args.place c.if-place-eq0.true (subst IsCity c.city.ensures.value c.rules.ensures.rules);
}
