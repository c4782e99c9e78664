use Rattle.std.proofs.Common.{◌++◌, ap, ◌∙◌}
use Rattle.network.specs.Nodes.{line_nodes}
use Rattle.network.proofs.KindLemmas.{lists_more}
use Rattle.network.proofs.nodes.add_lines.Goals as goal

pub loop-line-preserved : goal.loop-line-preserved
loop-line-preserved c =
    c.in_ok-add_line.ensures.added
    ∙ ap (λ nodes. nodes ++ line_nodes c.args.town.now c.loop-line.line) c.loop-line.invariant
    ∙ lists_more (line_nodes c.args.town.now) c.args.nodes.now.items c.loop-line.line
