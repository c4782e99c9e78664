use Rattle.std.proofs.Common.{ap, subst, ◌∙◌, arith, length}
use Rattle.std.specs.List.{range_with_len}
use Rattle.definitions.specs.Network.{IsNetwork}
use Rattle.lp_model.specs.Parts.{first_arc}
use Rattle.line_report.proofs.NodeArcLemmas.{all_out, sum_next, the_end, unit_term, units_leaving_are}
use Rattle.line_report.proofs.sums.units_leaving.Goals as goal

pub loop-step-preserved : goal.loop-step-preserved
loop-step-preserved c = record {
  value = sum_next (unit_term c.args.city.now c.args.kind c.args.volumes.now) c.first-first.result c.loop-step.step c.loop-step.units c.units_if-units.result
      c.loop-step.invariant.value c.units_if-units.ensures.value;
  within = omega arith;
}

pub returns-clause-value : goal.returns-clause-value
returns-clause-value c = λ thing stands.
    let all = all_out (unit_term c.args.city.now c.args.kind c.args.volumes.now) c.net-net.result.now c.args.city.now.net c.args.node c.first-first.result c.loop-step.step c.loop-step.units
    c.net-net.ensures.value c.first-first.ensures.value (c.out.ensures.numbers ∙ ap (range_with_len (first_arc c.net-net.result.now c.args.node)) (the_end c.loop-step.step (length c.out.result.now) c.loop-step.auto.step-end c.loop-step-test.false)) c.loop-step.invariant.value in
    units_leaving_are c.args.city.now c.args.kind c.args.volumes.now c.args.node c.loop-step.units thing c.rules.ensures.rules (subst IsNetwork c.net-net.ensures.value c.rules-2.ensures.rules) stands all
