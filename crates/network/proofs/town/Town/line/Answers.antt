use Rattle.std.proofs.Common.{ap, sym, subst}
use Rattle.headways.specs.declared.line.Line.{Line}
use Rattle.headways.specs.Laws.{IsLineOf}
use Rattle.network.specs.Sources.{Sources}
use Rattle.network.proofs.TownLemmas.{line-is, line-law, line-within}
use Rattle.network.proofs.town.Town.line.Goals as goal

pub bounds-self-inside-kept_at : goal.bounds-self-inside-kept_at
bounds-self-inside-kept_at c =
    line-within c.args.self.now c.self.inside.lines.now c.kept_at.result c.args.line (ap (λ (s : Sources). s.lines) c.self.view_is) c.kept_at.ensures.value c.requires.line

pub returns-clause-value : goal.returns-clause-value
returns-clause-value c =
    line-is c.args.self.now c.self.inside.lines.now c.kept_at.result c.args.line c.index-self-kept_at.result (ap (λ (s : Sources). s.lines) c.self.view_is) c.kept_at.ensures.value c.requires.line

pub returns-clause-law : goal.returns-clause-law
returns-clause-law c =
    let is = line-is c.args.self.now c.self.inside.lines.now c.kept_at.result c.args.line c.index-self-kept_at.result (ap (λ (s : Sources). s.lines) c.self.view_is) c.kept_at.ensures.value c.requires.line in
    subst (λ (line : Line). IsLineOf c.args.self.now.feed line) (sym is) (line-law c.args.self.now c.args.line c.rules.ensures.sources c.requires.line)
