use Rattle.std.proofs.Common.{◌+◌, ◌++◌, ◌∷◌, [], refl, ap, ◌∙◌}
use Rattle.network.specs.Nodes.{segment_nodes}
use Rattle.network.specs.declared.kinds.NodeKind.TheVariants as node
use Rattle.network.proofs.KindLemmas.{pair_more}
use Rattle.network.proofs.nodes.add_line.Goals as goal

pub loop-place-preserved : goal.loop-place-preserved
loop-place-preserved c =
    c.in_ok-push-2.ensures.items
    ∙ ap (λ nodes. nodes ++ node.Reach c.args.line (c.loop-place.place + 1) ∷ []) (c.in_ok-push.ensures.items ∙ ap (λ nodes. nodes ++ node.Leave c.args.line c.loop-place.place ∷ []) c.loop-place.invariant)
    ∙ pair_more (segment_nodes c.args.line) c.args.nodes.now.items c.loop-place.place (node.Leave c.args.line c.loop-place.place) (node.Reach c.args.line (c.loop-place.place + 1)) refl
