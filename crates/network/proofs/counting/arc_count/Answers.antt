use Rattle.std.proofs.Common.{◌≡◌, arith, ap, length}
use Rattle.network.proofs.WholeLemmas.{arcs-length}
use Rattle.network.proofs.counting.arc_count.Goals as goal

pub returns-clause-value : goal.returns-clause-value
returns-clause-value c =
    let links : length c.links.result.now ≡ length c.args.town.now.zones.links = ap length c.links.ensures.value in
    omega (arith, links, arcs-length c.args.town.now c.rules.ensures.sources)
