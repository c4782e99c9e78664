use Rattle.std.proofs.Common.{◌++◌, ◌∷◌, [], ap, ◌∙◌}
use Rattle.network.specs.declared.kinds.NodeKind.TheVariants as node
use Rattle.network.proofs.KindLemmas.{one_more}
use Rattle.network.proofs.nodes.add_goals.Goals as goal

pub loop-zone-preserved : goal.loop-zone-preserved
loop-zone-preserved c =
    c.in_ok-push.ensures.items
    ∙ ap (λ nodes. nodes ++ node.Goal c.loop-zone.zone ∷ []) c.loop-zone.invariant
    ∙ one_more node.Goal c.args.nodes.now.items c.loop-zone.zone
