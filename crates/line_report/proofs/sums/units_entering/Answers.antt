use Rattle.std.proofs.Common.{ap, subst, take_all, ◌∙◌}
use Rattle.std.specs.List.{sum_by}
use Rattle.definitions.specs.Network.{IsNetwork}
use Rattle.lp_model.specs.declared.entering.Entering.{Entering}
use Rattle.line_report.proofs.NodeArcLemmas.{all_in, unit_term, units_entering_are}
use Rattle.line_report.proofs.sums.units_entering.Goals as goal

pub returns-clause-value : goal.returns-clause-value
returns-clause-value c = λ thing stands.
    let term = unit_term c.args.city.now c.args.kind c.args.volumes.now in
    let arcs = c.entering-entering-items.result.now in
    let all = all_in term c.net-net.result.now c.args.city.now.net c.args.node arcs c.loop-entering.units c.net-net.ensures.value c.entering-entering-items.ensures.value
    (c.loop-entering.invariant.value ∙ ap (sum_by (λ (e : Entering). term e.arc)) (take_all c.loop-entering.entering-index arcs c.loop-entering-test.false)) in
    units_entering_are c.args.city.now c.args.kind c.args.volumes.now c.args.node c.loop-entering.units thing c.rules.ensures.rules (subst IsNetwork c.net-net.ensures.value c.rules-2.ensures.rules)
    stands all
