use Rattle.std.proofs.Common.{arith, rules}
use Rattle.std.specs.Prelude.{◌≡◌, ◌+◌, length}
use Rattle.network.specs.Sources.{kept_line}
use Rattle.network.proofs.TownLemmas.{rides-few}
use Rattle.network.proofs.town.Town.segments.Goals as goal

pub overflow_cast-result : goal.overflow_cast-result
overflow_cast-result c =
    let each : length c.as_slice.result.now + 1 ≡ length (kept_line c.args.self.now c.args.line).places = search rules in
    let few = rides-few c.args.self.now c.args.line (length c.as_slice.result.now) _ each c.requires.line c.rules.ensures.few in
    omega (arith, few)

pub returns-clause-within : goal.returns-clause-within
returns-clause-within c =
    let each : length c.as_slice.result.now + 1 ≡ length (kept_line c.args.self.now c.args.line).places = search rules in
    rides-few c.args.self.now c.args.line (length c.as_slice.result.now) _ each c.requires.line c.rules.ensures.few
