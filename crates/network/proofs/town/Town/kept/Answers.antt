use Rattle.std.proofs.Common.{arith}
use Rattle.network.proofs.TownLemmas.{kept-few, kept-length, town-of}
use Rattle.network.proofs.town.Town.kept.Goals as goal

pub overflow_cast-result : goal.overflow_cast-result
overflow_cast-result c =
    let town = town-of _ c.args.self.now c.self.inside.kept.now c.self.inside.stop_walks.now c.self.invariant c.self.view_is in
    let few = town.few in
    omega (arith, kept-length c.args.self.now c.self.inside.kept.now town.kept_are, kept-few c.args.self.now town.lawful, few)

pub returns-clause-value : goal.returns-clause-value
returns-clause-value c =
    let town = town-of _ c.args.self.now c.self.inside.kept.now c.self.inside.stop_walks.now c.self.invariant c.self.view_is in
    kept-length c.args.self.now c.self.inside.kept.now town.kept_are

pub returns-clause-within : goal.returns-clause-within
returns-clause-within c =
    let town = town-of _ c.args.self.now c.self.inside.kept.now c.self.inside.stop_walks.now c.self.invariant c.self.view_is in
    let few = town.few in
    omega (arith, kept-length c.args.self.now c.self.inside.kept.now town.kept_are, kept-few c.args.self.now town.lawful, few)
