use Rattle.std.proofs.Common.{ap, subst, ◌∙◌, arith, length}
use Rattle.std.specs.List.{range_with_len}
use Rattle.std.proofs.lemmas.List.FromFn.{length-range_with_len}
use Rattle.definitions.specs.Network.{IsNetwork, out_arcs}
use Rattle.lp_model.specs.Parts.{first_arc}
use Rattle.line_report.proofs.NodeArcLemmas.{all_out, sum_next, the_end, tick_term, ticks_leaving_are}
use Rattle.line_report.proofs.sums.ticks_leaving.Goals as goal

pub loop-step-preserved : goal.loop-step-preserved
loop-step-preserved c = record {
  value = sum_next (tick_term c.args.city.now c.args.kind c.args.volumes.now) c.first-first.result c.loop-step.step c.loop-step.ticks c.ticks_if-ticks.result
      c.loop-step.invariant.value c.ticks_if-ticks.ensures.value;
  within = omega arith;
}

pub returns-clause-value : goal.returns-clause-value
returns-clause-value c = λ thing stands.
    let all = all_out (tick_term c.args.city.now c.args.kind c.args.volumes.now) c.net-net.result.now c.args.city.now.net c.args.node c.first-first.result c.loop-step.step c.loop-step.ticks
    c.net-net.ensures.value c.first-first.ensures.value (c.out.ensures.numbers ∙ ap (range_with_len (first_arc c.net-net.result.now c.args.node)) (the_end c.loop-step.step (length c.out.result.now) c.loop-step.auto.step-end c.loop-step-test.false)) c.loop-step.invariant.value in
    ticks_leaving_are c.args.city.now c.args.kind c.args.volumes.now c.args.node c.loop-step.ticks thing c.rules.ensures.rules (subst IsNetwork c.net-net.ensures.value c.rules-2.ensures.rules) stands all

pub returns-clause-within : goal.returns-clause-within
returns-clause-within c =
    let size = ap length c.out.ensures.numbers in
    let same = ap (λ n. length (out_arcs n c.args.node)) c.net-net.ensures.value in
    omega (arith, length-range_with_len (first_arc c.net-net.result.now c.args.node) (length c.out.result.now))
