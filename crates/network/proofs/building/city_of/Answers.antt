use Rattle.network.proofs.CityLemmas.{made_rules}
use Rattle.network.proofs.building.city_of.Goals as goal

pub of-requires : goal.of-requires
of-requires c = record {
  rules = made_rules c.args.given.now c.args.k c.in_ok-net.net c.zones.result c.args.parts.nodes.items c.args.parts.arcs.kinds.items c.args.kept.items c.rules.ensures.rules c.in_ok-net.ensures.value
      c.zones.ensures.value c.requires.parts.nodes c.requires.parts.kinds c.requires.kept;
}
