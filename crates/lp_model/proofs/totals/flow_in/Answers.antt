use Rattle.std.proofs.Common.{◌<◌, length, get_or, ap, ◌∙◌, arith}
use Rattle.std.specs.List.{sum_by}
use Rattle.std.proofs.lemmas.List.Elements.{All-weaker}
use Rattle.definitions.specs.Network.{in_arcs}
use Rattle.lp_model.specs.Entered.{IsEntering}
use Rattle.lp_model.proofs.IndexLemmas.{sum_entering}
use Rattle.lp_model.proofs.totals.flow_in.Goals as goal

pub sum_at-requires-clause-there : goal.sum_at-requires-clause-there
sum_at-requires-clause-there c =
    All-weaker (IsEntering c.args.net.now) (λ arc. arc.arc < length c.args.v.now) (λ arc h. omega (arith, h.there, c.requires.flow_per_arc)) c.entering.result.now c.entering.ensures.there

pub returns-clause-value : goal.returns-clause-value
returns-clause-value c =
    c.sum_at.ensures.value
    ∙ ap (sum_by (λ arc. get_or c.args.v.now arc.arc 0)) c.entering.ensures.value
    ∙ sum_entering (λ arc. get_or c.args.v.now arc 0) c.args.net.now.arcs (in_arcs c.args.net.now c.args.n)
