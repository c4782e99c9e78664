use Rattle.std.proofs.Common.{◌++◌, ap, ◌∙◌, sym}
use Rattle.network.proofs.NodeLemmas.{goals, lines, nodes_are, origins, stops}
use Rattle.network.proofs.nodes.node_kinds.Goals as goal

pub returns-clause-value : goal.returns-clause-value
returns-clause-value c =
    c.in_ok-add_lines.ensures.added
    ∙ ap (λ nodes. nodes ++ lines c.args.town.now)
    (c.in_ok-add_stops.ensures.added
    ∙ ap (λ nodes. nodes ++ stops c.args.town.now)
    (c.in_ok-add_goals.ensures.added
    ∙ ap (λ nodes. nodes ++ goals c.args.town.now) (c.in_ok-add_origins.ensures.added ∙ ap (λ nodes. nodes ++ origins c.args.town.now) c.new-nodes.ensures.items)))
    ∙ sym (nodes_are c.args.town.now)
