use Rattle.std.proofs.Common.{arith, sym, subst, ◌∙◌}
use Rattle.std.specs.Prelude.{◌<◌, All, List}
use Rattle.demand.specs.declared.tables.WalkRow.{WalkRow}
use Rattle.network.specs.Sources.{stop_count}
use Rattle.network.proofs.FitLemmas.{walks_lead}
use Rattle.network.proofs.TownLemmas.{town-of, walks-at, walks-length}
use Rattle.network.proofs.town.Town.walks.Goals as goal

pub of-requires : goal.of-requires
of-requires c =
    let town = town-of _ c.args.self.now c.self.inside.kept.now c.self.inside.stop_walks.now c.self.invariant c.self.view_is in
    record { stop = omega (arith, walks-length c.args.self.now c.self.inside.stop_walks.now town.walks_are) }

pub returns-clause-value : goal.returns-clause-value
returns-clause-value c =
    let town = town-of _ c.args.self.now c.self.inside.kept.now c.self.inside.stop_walks.now c.self.invariant c.self.view_is in
    c.of.ensures.value ∙ walks-at c.args.self.now c.self.inside.stop_walks.now c.args.stop town.walks_are c.requires.stop

pub returns-clause-among : goal.returns-clause-among
returns-clause-among c =
    let town = town-of _ c.args.self.now c.self.inside.kept.now c.self.inside.stop_walks.now c.self.invariant c.self.view_is in
    let is = c.of.ensures.value ∙ walks-at c.args.self.now c.self.inside.stop_walks.now c.args.stop town.walks_are c.requires.stop in
    subst (λ (walks : List WalkRow). All (λ walk. walk.to < stop_count c.args.self.now) walks) (sym is) (walks_lead c.args.self.now.feed c.args.self.now.walks c.args.stop)
