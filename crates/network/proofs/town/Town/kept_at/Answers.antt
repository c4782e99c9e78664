use Rattle.std.proofs.Common.{arith}
use Rattle.network.proofs.TownLemmas.{kept-is, kept-length, town-of}
use Rattle.network.proofs.town.Town.kept_at.Goals as goal

pub bounds-self-inside-line : goal.bounds-self-inside-line
bounds-self-inside-line c =
    let town = town-of _ c.args.self.now c.self.inside.kept.now c.self.inside.stop_walks.now c.self.invariant c.self.view_is in
    omega (arith, kept-length c.args.self.now c.self.inside.kept.now town.kept_are)

pub returns : goal.returns
returns c =
    let town = town-of _ c.args.self.now c.self.inside.kept.now c.self.inside.stop_walks.now c.self.invariant c.self.view_is in
    record { value = kept-is c.args.self.now c.self.inside.kept.now c.args.line _ town.kept_are c.requires.line }
