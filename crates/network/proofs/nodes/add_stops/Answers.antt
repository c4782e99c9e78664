use Rattle.std.proofs.Common.{◌++◌, ◌∷◌, [], refl, ap, ◌∙◌}
use Rattle.network.specs.Nodes.{stop_nodes}
use Rattle.network.specs.declared.kinds.NodeKind.TheVariants as node
use Rattle.network.proofs.KindLemmas.{pair_more}
use Rattle.network.proofs.nodes.add_stops.Goals as goal

pub loop-stop-preserved : goal.loop-stop-preserved
loop-stop-preserved c =
    c.in_ok-push-2.ensures.items
    ∙ ap (λ nodes. nodes ++ node.Later c.loop-stop.stop ∷ []) (c.in_ok-push.ensures.items ∙ ap (λ nodes. nodes ++ node.First c.loop-stop.stop ∷ []) c.loop-stop.invariant)
    ∙ pair_more stop_nodes c.args.nodes.now.items c.loop-stop.stop (node.First c.loop-stop.stop) (node.Later c.loop-stop.stop) refl
